use Rattle.std.proofs.Common.{◌≡◌, ◌<◌, length, sym, ◌∙◌, subst, arith}
use Rattle.std.proofs.lemmas.Bool.{false≢true}
use Rattle.std.proofs.lemmas.List.{get_or_default}
use Rattle.heap_terms.specs.declared.phases.Phase.TheVariants.{Ended}
use Rattle.heap_terms.specs.MachineTurns.{phase_of}
use Rattle.replay_core.specs.MachineSound.{view_of}
use Rattle.replay_core.specs.MachineView.{MachineView, configuration_of}
use Rattle.replay_core.proofs.machine.Machine.has_ended.Goals as goal

pub returns-in_default-clause-ended : goal.returns-in_default-clause-ended
returns-in_default-clause-ended c =
    let phases = c.self.inside.phases in
    let t = c.loop-t.t in
    let inside : t < length phases = omega (arith, c.loop-t-test.true, c.len-t-end.ensures) in (
      λ never. absurd (false≢true never),
      λ all.
          let at : phase_of (configuration_of (view_of c.self.inside)) t ≡ Ended = subst (λ (m : MachineView). phase_of (configuration_of m) t ≡ Ended) (sym c.self.view_is) (all t) in
          absurd (c.in_default.not-Ended (c.at.ensures ∙ get_or_default phases t c.at.result Ended inside ∙ at)),
    )
