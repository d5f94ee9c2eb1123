use Rattle.std.proofs.Common.{sym, ◌∙◌, subst}
use Rattle.heap_terms.specs.declared.phases.Task.TheVariants.{Walk}
use Rattle.machine_laws.specs.Orderly.{IsOrderly}
use Rattle.replay_core.specs.MachineView.{MachineView, program_of, configuration_of}
use Rattle.replay_core.proofs.Asking.{found_task}
use Rattle.replay_core.proofs.Turning.{waits_if}
use Rattle.replay_core.proofs.machine.Machine.step.Goals as goal

pub returns-in-Walk-clause-waits : goal.returns-in-Walk-clause-waits
returns-in-Walk-clause-waits c =
    let m = c.args.self.now in
    let task = found_task c.self.inside m c.args.t c.at-phase.result c.is_due.result (Walk c.in-Walk.step) c.self.view_is c.self.invariant c.requires
    c.at-phase.ensures c.is_due.ensures (sym c.task_for.ensures ∙ c.in-Walk.is) in
    let orderly : IsOrderly (program_of m) (configuration_of m) = subst (λ (x : MachineView). IsOrderly (program_of x) (configuration_of x)) c.self.view_is c.self.invariant.orderly in
    let waits = waits_if (program_of m) c.args.t c.in-Walk.step (configuration_of m) orderly c.requires task in
    let told = c.told.ensures.lines.waits in
    (λ e. waits.0 (sym c.walk-answer.ensures.found_is ∙ told.0 e), λ w. told.1 (c.walk-answer.ensures.found_is ∙ waits.1 w))
