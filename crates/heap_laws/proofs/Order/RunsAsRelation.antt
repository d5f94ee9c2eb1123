-- Runs as a relation say the same as lawful lists of events.
use Rattle.std.proofs.Common.{◌≡◌, List, [], ◌∷◌, refl, ◌∙◌, subst, ap}
use Rattle.heap_terms.specs.declared.events.Event.{Event}
use Rattle.heap_terms.specs.declared.programs.Program.{Program}
use Rattle.heap_terms.specs.Heap.{NamedHeap}
use Rattle.heap_terms.specs.Histories.{after, LawfulFrom, replay_from}
use Rattle.heap_laws.specs.HeapRuns.{IsRunOf}

pub lawful_from_run : (p : Program) (a : NamedHeap) (h : List Event) (b : NamedHeap) → IsRunOf p a h b → LawfulFrom p a h × (b ≡ replay_from p a h)
lawful_from_run p a [] b run = (tt, run)
lawful_from_run p a (e ∷ es) b run =
    let c = run.0 in
    let rest = lawful_from_run p c es b run.2 in
    let same : c ≡ after p a e = run.1.1 in
    ((run.1.0, subst (λ (x : NamedHeap). LawfulFrom p x es) same rest.0), rest.1 ∙ ap (λ (x : NamedHeap). replay_from p x es) same)

pub run_from_lawful : (p : Program) (a : NamedHeap) (h : List Event) (b : NamedHeap) → LawfulFrom p a h → b ≡ replay_from p a h → IsRunOf p a h b
run_from_lawful p a [] b lawful end = end
run_from_lawful p a (e ∷ es) b lawful end = (after p a e, (lawful.0, refl), run_from_lawful p (after p a e) es b lawful.1 end)
