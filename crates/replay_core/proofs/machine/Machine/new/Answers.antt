use Rattle.std.proofs.Common.{◌≡◌, ℕ, List, length, replicate, refl, sym, ◌∙◌, ap, subst}
use Rattle.heap_terms.specs.declared.events.Event.{Event}
use Rattle.heap_terms.specs.declared.phases.Phase.{Phase}
use Rattle.heap_terms.specs.declared.phases.Phase.TheVariants.{Parked}
use Rattle.heap_terms.specs.declared.programs.Program.{Program}
use Rattle.heap_terms.specs.MachineTurns.{Configuration, machine_start}
use Rattle.heap_terms.specs.Valid.{IsValid}
use Rattle.lisp_heap.specs.Agreement.{AreFresh}
use Rattle.machine_laws.specs.Orderly.{IsOrderly}
use Rattle.machine_laws.proofs.Rounds.{start_orderly}
use Rattle.heap_turns.proofs.Ready.{fresh_ready}
use Rattle.replay_core.proofs.machine.Machine.new.Goals as goal

-- the parts of a new machine are those of the first configuration
starts : (p : Program) (h : List Event) (turn : ℕ) (words : List ℕ) (phases : List Phase) → h ≡ (machine_start p).history → turn ≡ 0 → words ≡ (machine_start p).words →
    phases ≡ (machine_start p).phases → record { history = h; turn = turn; words = words; phases = phases } ≡ machine_start p
starts p h turn words phases a b c d = rw (a, b, c, d) refl

pub invariant_of-result : goal.invariant_of-result
invariant_of-result c =
    let w = c.in_ok-world.world in
    let ps = c.in_ok-world.parcels.items in
    let same : w.program ≡ c.args.program = c.in_ok-world.ensures.program in
    let threads : c.len-threads.result ≡ length c.args.program.threads = c.len-threads.ensures in
    let start = starts c.args.program w.history c.in_ok-stops.stops.turn c.in_ok-stops.stops.words c.in_ok-phases.phases c.in_ok-world.ensures.history c.in_ok-stops.ensures.turn
    (c.in_ok-stops.ensures.words ∙ ap (λ (n : ℕ). replicate n 4) threads) (c.in_ok-phases.ensures ∙ ap (λ (n : ℕ). replicate n Parked) threads) in
    let conf : Configuration = record { history = w.history; turn = c.in_ok-stops.stops.turn; words = c.in_ok-stops.stops.words; phases = c.in_ok-phases.phases } in
    record {
      valid = subst (λ (p : Program). IsValid p) (sym same) c.requires;
      ready = fresh_ready w ps c.in_ok-world.ensures.history (subst (λ (p : Program). AreFresh ps (length p.threads)) (sym same) c.in_ok-world.ensures.parcels);
      orderly = subst (λ (p : Program). IsOrderly p conf) (sym same) (subst (λ (x : Configuration). IsOrderly c.args.program x) (sym start) (start_orderly c.args.program));
    }
