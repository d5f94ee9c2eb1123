-- A whole run.
use Rattle.std.proofs.Common.{◌≡◌, List, [], ◌++◌, length, Option, Some, ap, sym, subst}
use Rattle.heap_terms.specs.declared.programs.Program.{Program}
use Rattle.heap_terms.specs.declared.steps.ReplayLine.{ReplayLine}
use Rattle.heap_terms.specs.MachineTurns.{Configuration, machine_start}
use Rattle.heap_terms.specs.Runs.{AreTurns, IsRun, rounds_of}
use Rattle.lisp_heap.specs.View.{View}
use Rattle.replay_core.specs.MachineView.{MachineView, program_of, configuration_of}
use Rattle.replay_core.specs.Runs.{RunsTo, RunsWhole}

-- what a machine did from its start until every thread has ended is a run
pub whole_run : (p : Program) (a b : MachineView) (w : View) (k l : Option (List ReplayLine)) → program_of a ≡ p → configuration_of a ≡ machine_start p → (r : RunsWhole a b k l) → w ≡ b.world →
    IsRun p r.turned.lines w.history
whole_run p a b w k l program start r same = record {
  rounds = r.rounds;
  last = configuration_of b;
  turns = subst (λ (q : Program). AreTurns q (q.schedule ++ rounds_of (length q.threads) r.rounds) (machine_start p) r.turned.lines (configuration_of b)) program
      (subst (λ (c : Configuration). AreTurns (program_of a) ((program_of a).schedule ++ rounds_of (length (program_of a).threads) r.rounds) c r.turned.lines (configuration_of b)) start
      r.turned.turned.turns);
  history = sym (ap (λ (v : View). v.history) same);
  ended = r.done;
}

pub some_run : (p : Program) (a b : MachineView) (w : View) (k l : Option (List ReplayLine)) → program_of a ≡ p → configuration_of a ≡ machine_start p → RunsWhole a b k l → w ≡ b.world → RunsTo p w.history
some_run p a b w k l program start r same = record { lines = r.turned.lines; run = whole_run p a b w k l program start r same }

-- with the lines that were kept
pub kept_run : (p : Program) (a b : MachineView) (w : View) (lines : List ReplayLine) → program_of a ≡ p → configuration_of a ≡ machine_start p →
    RunsWhole a b (Some []) (Some lines) → w ≡ b.world → IsRun p lines w.history
kept_run p a b w lines program start r same =
    let kept : Some lines ≡ Some ([] ++ r.turned.lines) = r.turned.keeps in
    let is : lines ≡ r.turned.lines = cc in
    subst (λ (ls : List ReplayLine). IsRun p ls w.history) (sym is) (whole_run p a b w (Some []) (Some lines) program start r same)
