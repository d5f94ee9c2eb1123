use Rattle.std.proofs.Common.{List, Option, length, subst}
use Rattle.std.proofs.lemmas.Result.{on_ok_weaker}
use Rattle.heap_terms.specs.declared.programs.Program.{Program}
use Rattle.heap_terms.specs.declared.steps.ReplayLine.{ReplayLine}
use Rattle.heap_terms.specs.Runs.{rounds_of}
use Rattle.replay_core.specs.MachineView.{MachineView, program_of}
use Rattle.replay_core.specs.Runs.{TurnedKept, RoundsDone, RunsWhole}
use Rattle.replay_core.proofs.Many.{TurnedKept-append}
use Rattle.replay_core.proofs.runs.run.Goals as goal

-- the turns of the schedule and then the rounds
whole : (a b c : MachineView) (k l m : Option (List ReplayLine)) → TurnedKept (program_of a).schedule a b k l → RoundsDone b c l m → RunsWhole a c k m
whole a b c k l m front rest = record {
  rounds = rest.rounds;
  turned = TurnedKept-append (program_of a).schedule (rounds_of (length (program_of a).threads) rest.rounds) a b c k l m front
      (subst (λ (p : Program). TurnedKept (rounds_of (length p.threads) rest.rounds) b c l m) front.turned.program rest.turned);
  done = rest.done;
}

pub returns : goal.returns
returns c =
    on_ok_weaker c.rounds.result
    (whole c.args.machine.now c.schedule_turns.new.machine c.rounds.new.machine c.args.kept.now c.schedule_turns.new.kept c.rounds.new.kept c.in_ok-schedule_turns.ensures) c.rounds.ensures
