-- What is asked of a machine, read from its parts.
use Rattle.std.proofs.Common.{◌≡◌, ℕ, ◌<◌, length, Bool, sym, subst, ap, ◌∙◌, get_or, arith}
use Rattle.std.proofs.lemmas.List.{get_or_default}
use Rattle.heap_terms.specs.declared.phases.Phase.{Phase}
use Rattle.heap_terms.specs.declared.phases.Phase.TheVariants.{Ended}
use Rattle.heap_terms.specs.declared.phases.Task.{Task}
use Rattle.heap_terms.specs.MachineTurns.{phase_of, is_due}
use Rattle.heap_terms.specs.Phases.{collects, task_at}
use Rattle.lisp_heap.specs.View.{next_of}
use Rattle.replay_core.specs.declared.machine.Machine.TheInside.{Inside}
use Rattle.replay_core.specs.MachineSound.{view_of, IsSound}
use Rattle.replay_core.specs.MachineView.{MachineView, program_of, configuration_of}
use Rattle.replay_core.proofs.Turning.{task_of}

pub record Asked (s : Inside) (t : ℕ) (ph : Phase) (task : Task) : Type 0 where
  pub thread : t < length s.world.program.threads
  pub phase : phase_of (configuration_of (view_of s)) t ≡ ph
  pub is : task_at (phase_of (configuration_of (view_of s)) t) (is_due s.world.program s.world.history t) ≡ task

pub asked : (s : Inside) (m : MachineView) (t : ℕ) (ph : Phase) (task : Task) → view_of s ≡ m → t < length (program_of m).threads → phase_of (configuration_of m) t ≡ ph →
    task_at ph (is_due (program_of m) m.world.history t) ≡ task → Asked s t ph task
asked s m t ph task view l at is = record {
  thread = subst (λ (x : MachineView). t < length (program_of x).threads) (sym view) l;
  phase = subst (λ (x : MachineView). phase_of (configuration_of x) t ≡ ph) (sym view) at;
  is = subst (λ (x : MachineView). task_at (phase_of (configuration_of x) t) (is_due (program_of x) x.world.history t) ≡ task) (sym view) (task_of m t ph task at is);
}

-- the phase of a thread, as it was read from the machine
pub phase_found : (s : Inside) (m : MachineView) (t : ℕ) (ph : Phase) → view_of s ≡ m → IsSound s → t < length (program_of m).threads → ph ≡ get_or s.phases t ph →
    phase_of (configuration_of (view_of s)) t ≡ ph
phase_found s m t ph view sound l at =
    let below : t < length s.world.program.threads = subst (λ (x : MachineView). t < length (program_of x).threads) (sym view) l in
    let inside : t < length s.phases = (let same = sound.orderly.phases_count in omega arith) in
    get_or_default s.phases t Ended ph inside ∙ sym at

-- what a thread does, as it was read from the machine
pub found_task : (s : Inside) (m : MachineView) (t : ℕ) (ph : Phase) (due : Bool) (task : Task) → view_of s ≡ m → IsSound s → t < length (program_of m).threads →
    ph ≡ get_or s.phases t ph → due ≡ collects (next_of s.world t) → task_at ph due ≡ task →
    task_at (phase_of (configuration_of m) t) (is_due (program_of m) m.world.history t) ≡ task
found_task s m t ph due task view sound l at due_is is =
    subst (λ (x : MachineView). task_at (phase_of (configuration_of x) t) (is_due (program_of x) x.world.history t) ≡ task) view
    (ap (λ (x : Phase). task_at x (is_due s.world.program s.world.history t)) (phase_found s m t ph view sound l at) ∙ ap (λ (b : Bool). task_at ph b) (sym due_is) ∙ is)
