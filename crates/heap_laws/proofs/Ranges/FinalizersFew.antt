-- No more finalizers are registered and queued than events have happened.
use Rattle.std.proofs.Common.{◌≡◌, ℕ, ◌+◌, ◌≤◌, List, [], ◌∷◌, length, map, filter, not, inl, inr, refl, arith, length-append, Option, Some, None}
use Rattle.std.proofs.lemmas.Bool.{cases_Bool}
use Rattle.std.proofs.lemmas.List.{length-map}
use Rattle.std.proofs.lemmas.List.Filters.{length-filter_both}
use Rattle.heap_terms.specs.declared.cells.Cell.{Cell}
use Rattle.heap_terms.specs.declared.cells.Cell.TheVariants.{Stack, Exact, Shared}
use Rattle.heap_terms.specs.declared.cells.Value.{Value}
use Rattle.heap_terms.specs.declared.cells.Value.TheVariants as values
use Rattle.heap_terms.specs.declared.commands.Command.{Command}
use Rattle.heap_terms.specs.declared.events.Event.{Event}
use Rattle.heap_terms.specs.declared.events.PassRecord.{PassRecord}
use Rattle.heap_terms.specs.declared.kinds.Kind.{Kind}
use Rattle.heap_terms.specs.declared.kinds.PageType.{PageType}
use Rattle.heap_terms.specs.declared.programs.Program.{Program}
use Rattle.heap_terms.specs.Cells.{with_cell}
use Rattle.heap_terms.specs.Collections.{after_pass_of, after_passes, closed, collected}
use Rattle.heap_terms.specs.Heap.{NamedHeap, start}
use Rattle.heap_terms.specs.Histories.{IsNext, after, LawfulFrom, Lawful, replay, replay_from}
use Rattle.heap_terms.specs.Outcomes.{outcome_of}
use Rattle.heap_terms.specs.Passes.{after_pass, remains}
use Rattle.heap_terms.specs.Regions.{committed, counting, triggers, opened, with_destination}
use Rattle.heap_terms.specs.Survival.{registered, queued_of}
use Rattle.heap_laws.proofs.Events.Causes.{by_events}
use Rattle.heap_laws.proofs.OneCommand.Outcome.{by_table}

-- at most n are registered and queued
abbrev pub HasFewFinalizers : ℕ → NamedHeap → Type 0
HasFewFinalizers n a = length a.finalizers + length a.queue ≤ n

outcome-few : (a : NamedHeap) (t n : ℕ) (c : Command) → HasFewFinalizers n a → HasFewFinalizers (n + 1) (outcome_of a t c).heap
outcome-few a t n c few =
    by_table (λ o. HasFewFinalizers (n + 1) o.heap) a t (λ why. omega arith) (λ x e. omega arith) (λ x e d v. cell d v) (λ x e th. omega arith) (λ x e at change. omega arith)
    (λ x e fs short. omega arith) (λ x e. omega arith) c
  where
    cell : (d : Cell) (v : Value) → HasFewFinalizers (n + 1) (with_cell a t d v)
    cell (Stack i) v = omega arith
    cell (Exact i) v = omega arith
    cell (Shared i) v = omega arith

-- a commit leaves them as they were
destination-few : (b : NamedHeap) (t n : ℕ) (o : Option Cell) (v : Value) → HasFewFinalizers n b → HasFewFinalizers n (with_destination b t o v)
destination-few b t n None v few = few
destination-few b t n (Some (Stack i)) v few = few
destination-few b t n (Some (Exact i)) v few = few
destination-few b t n (Some (Shared i)) v few = few

counting-few : (p : Program) (b : NamedHeap) (t size n : ℕ) → HasFewFinalizers n b → HasFewFinalizers n (counting p b t size)
counting-few p b t size n few = elim (cases_Bool (triggers p b size)) [
  | inl reached ↦ rw reached few
  | inr below ↦ rw below few
]

committed-few : (p : Program) (a : NamedHeap) (t : ℕ) (c : Command) (kind : Kind) (k n : ℕ) → HasFewFinalizers n a → HasFewFinalizers n (committed p a t c kind k)
unfolding committed
committed-few p a t c kind k n few = counting-few p _ t _ n (destination-few _ t n _ (values.Ref (length a.objects)) few)

opened-few : (a : NamedHeap) (t : ℕ) (ty : PageType) (first k n : ℕ) → HasFewFinalizers n a → HasFewFinalizers n (opened a t ty first k)
unfolding opened
opened-few a t ty first k n few = few

-- a pass moves some from the list to the queue
pass-few : (a : NamedHeap) (r : PassRecord) (n : ℕ) → HasFewFinalizers n a → HasFewFinalizers n (after_pass a r)
unfolding after_pass
pass-few a r n few =
    let both = length-filter_both (λ (entry : ℕ × ℕ). remains a r entry.0) (λ (entry : ℕ × ℕ). not (remains a r entry.0)) (λ entry. refl) a.finalizers in
    let queued = length-append a.queue (queued_of a (remains a r)) in
    let as_many = length-map (filter (λ (entry : ℕ × ℕ). not (remains a r entry.0)) a.finalizers) (λ (entry : ℕ × ℕ). entry.1) in
    omega arith

passes-few : (a : NamedHeap) (last g : ℕ) (records : List PassRecord) (n : ℕ) → HasFewFinalizers n a → HasFewFinalizers n (after_passes a last g records)
passes-few a last g [] n few = few
passes-few a last g (r ∷ rest) n few = passes-few (after_pass_of a last g r) last (g + 1) rest n (pass-few a r n few)

collected-few : (a : NamedHeap) (t last : ℕ) (records : List PassRecord) (n : ℕ) → HasFewFinalizers n a → HasFewFinalizers n (collected a t last records)
unfolding collected
collected-few a t last records n few = passes-few (closed a) last 0 records n few

pub finalizers-after : (p : Program) (a : NamedHeap) (e : Event) (n : ℕ) → IsNext p a e → HasFewFinalizers n a → HasFewFinalizers (n + 1) (after p a e)
finalizers-after p a e n next few = by_events p a (λ e b. HasFewFinalizers (n + 1) b)
    (λ t c answer d. outcome-few a t n c few)
    (λ t c answer d. omega arith)
    (λ t c answer kind k seed d. (let same = committed-few p a t c kind k n few in omega arith))
    (λ t ty first k d. (let same = opened-few a t ty first k n few in omega arith))
    (λ t last passes d. (let same = collected-few a t last passes n few in omega arith))
    (λ t d. omega arith)
    e next

replay_from-few : (p : Program) (a : NamedHeap) (es : List Event) (n : ℕ) → LawfulFrom p a es → HasFewFinalizers n a → HasFewFinalizers (n + length es) (replay_from p a es)
replay_from-few p a [] n lawful few = omega arith
replay_from-few p a (e ∷ es) n lawful few =
    let rest = replay_from-few p (after p a e) es (n + 1) lawful.1 (finalizers-after p a e n lawful.0 few) in omega arith

pub finalizers-start : (p : Program) → HasFewFinalizers 0 (start p)
unfolding start
finalizers-start p = omega arith

pub replay-finalizers : (p : Program) (h : List Event) → Lawful p h → length (replay p h).finalizers + length (replay p h).queue ≤ length h
replay-finalizers p h lawful = (let few = replay_from-few p (start p) h 0 lawful (finalizers-start p) in omega arith)
