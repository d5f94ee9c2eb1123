use Rattle.std.proofs.Common.{◌≡◌, ℕ, ◌<◌, ◌+◌, List, [], ◌∷◌, ◌++◌, length, take, get_or, subst, refl, sym, ap, ◌∙◌, arith}
use Rattle.std.proofs.lemmas.List.{take_more}
use Rattle.heap_terms.specs.declared.programs.Program.{Program}
use Rattle.lisp_heap.specs.View.{View}
use Rattle.replay_core.specs.MachineView.{program_of}
use Rattle.replay_core.specs.Runs.{TurnedKept}
use Rattle.replay_core.proofs.Many.{TurnedKept-append, TurnedKept-whole}
use Rattle.replay_core.proofs.rounds.schedule_turns.Goals as goal

pub loop-i-preserved : goal.loop-i-preserved
loop-i-preserved c =
    let start = c.args.machine.now in
    let i = c.loop-i.i in
    let t = c.at-t.result in
    let turns = (program_of start).schedule in
    let program_in = λ (w : View). w.program in
    let schedule_of = λ (p : Program). p.schedule in
    let at_first : c.program.result.now.schedule ≡ turns = ap schedule_of (c.program.ensures.program ∙ ap program_in c.world.ensures) in
    let now : c.program-in-loop-i.result.now.schedule ≡ turns =
    ap schedule_of (c.program-in-loop-i.ensures.program ∙ ap program_in c.world-in-loop-i.ensures ∙ c.loop-i.invariant.turned.program) in
    let inside : i < length turns = omega (arith, c.loop-i-test.true, c.len-i-end.ensures, ap length at_first) in
    let found : t ≡ get_or turns i t = c.at-t.ensures ∙ ap (λ (ts : List ℕ). get_or ts i t) now in
    let more : take (i + 1) turns ≡ take i turns ++ t ∷ [] =
    take_more turns i t inside ∙ ap (λ (u : ℕ). take i turns ++ u ∷ []) (sym found) in
    subst (λ (ts : List ℕ). TurnedKept ts start c.turn.new.machine c.args.kept.now c.turn.new.kept) (sym more)
    (TurnedKept-append (take i turns) (t ∷ []) start c.loop-i.machine c.turn.new.machine c.args.kept.now c.loop-i.kept c.turn.new.kept c.loop-i.invariant c.in_ok-turn.ensures)

pub returns-then-has_ended : goal.returns-then-has_ended
returns-then-has_ended c =
    let start = c.args.machine.now in
    TurnedKept-whole (program_of start).schedule c.loop-i.i start c.loop-i.machine c.args.kept.now c.loop-i.kept c.loop-i.invariant (c.if-has_ended.ensures.ended.0 refl)
