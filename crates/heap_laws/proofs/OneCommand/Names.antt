-- The names that a history gives are 0, 1, 2 and so on.
use Rattle.std.proofs.Common.{◌≡◌, ℕ, ◌+◌, List, [], ◌∷◌, ◌++◌, length, Option, Some, None, Bool, true, false, ◌⊎◌, inl, inr, refl, sym, ◌∙◌, ap, arith, cond}
use Rattle.std.proofs.lemmas.List.{length_push, length-set}
use Rattle.std.proofs.lemmas.List.FromFn.{length-map-range_with_len}
use Rattle.std.specs.List.{range_with_len}
use Rattle.heap_terms.specs.declared.answers.Answer.{Answer}
use Rattle.heap_terms.specs.declared.answers.Answer.TheVariants as answers
use Rattle.heap_terms.specs.declared.cells.Value.TheVariants as values
use Rattle.heap_terms.specs.declared.commands.Command.{Command}
use Rattle.heap_terms.specs.declared.events.Event.{Event}
use Rattle.heap_terms.specs.declared.kinds.Kind.{Kind}
use Rattle.heap_terms.specs.declared.programs.Program.{Program}
use Rattle.heap_terms.specs.declared.cells.Value.{Value}
use Rattle.heap_terms.specs.declared.events.PassRecord.{PassRecord}
use Rattle.heap_terms.specs.Collections.{closed, after_pass_of, after_passes, collected}
use Rattle.heap_terms.specs.Heap.{NamedHeap, start, object_at, thread_at, with_thread}
use Rattle.heap_terms.specs.Histories.{IsNext, after, Lawful, LawfulFrom, replay, replay_from}
use Rattle.heap_terms.specs.Layout.{size_of}
use Rattle.heap_terms.specs.Objects.{Object, Contents}
use Rattle.heap_terms.specs.Outcomes.{outcome_of}
use Rattle.heap_terms.specs.Passes.{object_after, after_pass}
use Rattle.heap_terms.specs.Referents.{changed_at}
use Rattle.heap_terms.specs.declared.kinds.PageType.{PageType}
use Rattle.heap_terms.specs.Regions.{committed, counting, opened, triggers, run_used, pages_after, place_for, with_destination, destination_of, initial_contents}
use Rattle.heap_laws.specs.CommandLaws.{name_in, name_in_answer, names_of}
use Rattle.heap_laws.proofs.Events.Causes.{by_events}
use Rattle.heap_laws.proofs.Events.OwnThread.{with_destination-objects}
use Rattle.heap_laws.proofs.Events.Tasks.{with_cell-objects}
use Rattle.heap_laws.proofs.OneCommand.Outcome.{is_plain, by_table, by_answers, placed_not_plain}
use Rattle.heap_laws.proofs.Ranges.ObjectCount.{start_empty}

-- an opening changes no object
opened-objects : (a : NamedHeap) (t : ℕ) (ty : PageType) (first k : ℕ) → (opened a t ty first k).objects ≡ a.objects
unfolding opened
opened-objects a t ty first k = refl

-- counting changes no object
counting-objects : (p : Program) (b : NamedHeap) (t size : ℕ) → (counting p b t size).objects ≡ b.objects
counting-objects p b t size = at (triggers p b size) _ _ refl refl
  where
    at : (f : Bool) (x y : NamedHeap) → x.objects ≡ b.objects → y.objects ≡ b.objects → (cond f x y).objects ≡ b.objects
    at true x y h k = h
    at false x y h k = k

committed-length : (p : Program) (a : NamedHeap) (t : ℕ) (c : Command) (kind : Kind) (n : ℕ) → length (committed p a t c kind n).objects ≡ length a.objects + 1
unfolding committed
committed-length p a t c kind n =
    let size = size_of kind n in
    let object : Object = record { generation = 0; place = place_for a t kind size; contents = initial_contents a t c } in
    let placed = record (with_thread a t (run_used (thread_at a t) size)) { objects = a.objects ++ Some object ∷ []; pages = pages_after a t kind size } in
    ap length (counting-objects p (with_destination placed t (destination_of c) (values.Ref (length a.objects))) t size
    ∙ with_destination-objects placed t (destination_of c) (values.Ref (length a.objects)))
    ∙ length_push a.objects (Some object)

no_name : (a : NamedHeap) (t : ℕ) (c : Command) (answer : Answer) → answer ≡ (outcome_of a t c).answer → name_in_answer answer ≡ None
no_name a t c answer e = ap name_in_answer e ∙ by_answers (λ x. name_in_answer x ≡ None) a t c (λ why. refl) plain_names
  where
    plain_names : (x : Answer) → is_plain x ≡ true → name_in_answer x ≡ None
    plain_names (answers.Placed name index) h = absurd (placed_not_plain name index h)
    plain_names answers.Done h = refl
    plain_names (answers.Val v) h = refl
    plain_names (answers.Word w) h = refl
    plain_names answers.Yes h = refl
    plain_names answers.No h = refl
    plain_names answers.Absent h = refl
    plain_names (answers.Live v) h = refl
    plain_names answers.Broken h = refl
    plain_names (answers.Count n) h = refl
    plain_names (answers.Ran ids) h = refl
    plain_names (answers.Page view) h = refl
    plain_names (answers.Stat allocated cum num) h = refl
    plain_names (answers.Refused why) h = refl

-- a command that makes nothing, and a collection, add no name
changed-length : (objects : List (Option Object)) (at : Value) (change : Contents → Contents) → length (changed_at objects at change) ≡ length objects
changed-length objects (values.Fix n) change = refl
changed-length objects values.Nil change = refl
changed-length objects values.Unbound change = refl
changed-length objects (values.Ref name) change = length-set objects name _

simple-length : (a : NamedHeap) (t : ℕ) (c : Command) → length (outcome_of a t c).heap.objects ≡ length a.objects
simple-length a t c =
    by_table (λ o. length o.heap.objects ≡ length a.objects) a t (λ why. refl) (λ x e. refl) (λ x e d v. ap length (with_cell-objects a t d v))
    (λ x e th. refl) (λ x e at change. changed-length a.objects at change) (λ x e fs short. refl) (λ x e. refl) c

passes-length : (a : NamedHeap) (last g : ℕ) (records : List PassRecord) → length (after_passes a last g records).objects ≡ length a.objects
unfolding after_pass
passes-length a last g [] = refl
passes-length a last g (r ∷ rest) =
    passes-length (after_pass_of a last g r) last (g + 1) rest
    ∙ length-map-range_with_len (λ name. object_after a r name (object_at a.objects name)) 0 (length a.objects)

collected-length : (a : NamedHeap) (t last : ℕ) (records : List PassRecord) → length (collected a t last records).objects ≡ length a.objects
unfolding collected
collected-length a t last records = passes-length (closed a) last 0 records

-- an event gives no name, or the next one
abbrev Gives : NamedHeap → Event → NamedHeap → Type 0
Gives a e b = ((name_in e ≡ None) × (length b.objects ≡ length a.objects)) ⊎ ((name_in e ≡ Some (length a.objects)) × (length b.objects ≡ length a.objects + 1))

gives : (p : Program) (a : NamedHeap) (e : Event) → IsNext p a e → Gives a e (after p a e)
gives p a e next = by_events p a (λ e b. Gives a e b)
    (λ t c answer d. inl (no_name a t c answer d.answered, simple-length a t c))
    (λ t c answer d. inl (ap name_in_answer d.answered, refl))
    (λ t c answer kind n seed d. inr (ap name_in_answer d.answered, committed-length p a t c kind n))
    (λ t ty first k d. inl (refl, ap length (opened-objects a t ty first k)))
    (λ t last passes d. inl (refl, collected-length a t last passes))
    (λ t d. inl (refl, refl))
    e next

names_from : (p : Program) (a : NamedHeap) (h : List Event) → LawfulFrom p a h →
    (names_of h ≡ range_with_len (length a.objects) (length (names_of h))) × (length (replay_from p a h).objects ≡ length a.objects + length (names_of h))
names_from p a [] lawful = (refl, omega arith)
names_from p a (e ∷ es) lawful =
    let rest = names_from p (after p a e) es lawful.1 in
    elim (gives p a e lawful.0) [
      | inl none ↦ (
          let same : names_of (e ∷ es) ≡ names_of es = rw none.0 refl in
          rw (same, ← none.1) rest)
      | inr some ↦ (
          let more : names_of (e ∷ es) ≡ length a.objects ∷ names_of es = rw some.0 refl in
          let after_it : names_of es ≡ range_with_len (length a.objects + 1) (length (names_of es)) =
          rest.0 ∙ ap (λ (n : ℕ). range_with_len n (length (names_of es))) some.1 in
          let others : length (replay_from p a (e ∷ es)).objects ≡ length a.objects + length (names_of (e ∷ es)) = omega (arith, rest.1, some.1, ap length more) in
          (more ∙ ap (λ (ns : List ℕ). length a.objects ∷ ns) after_it ∙ sym (ap (λ (ns : List ℕ). range_with_len (length a.objects) (length ns)) more), others))
    ]

pub fresh_names : (p : Program) (h : List Event) → Lawful p h → names_of h ≡ range_with_len 0 (length (replay p h).objects)
fresh_names p h lawful =
    let all = names_from p (start p) h lawful in
    let none = start_empty p in
    let many : length (replay p h).objects ≡ length (names_of h) = omega (arith, all.1, none) in
    all.0 ∙ ap (λ (n : ℕ). range_with_len n (length (names_of h))) none ∙ ap (λ (n : ℕ). range_with_len 0 n) (sym many)
