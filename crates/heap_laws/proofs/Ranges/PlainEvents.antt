-- The events of a valid program are plain.
use Rattle.std.proofs.Common.{◌≡◌, ℕ, suc, ◌+◌, ◌*◌, ◌^◌, ◌<◌, ◌≤◌, List, [], ◌∷◌, ◌++◌, length, Option, Some, None, Bool, false, inl, inr, refl, sym, ◌∙◌, subst, ap, arith, set}
use Rattle.std.proofs.lemmas.Bool.{cases_lt, false≢true, ltb-true}
use Rattle.std.proofs.lemmas.List.{get_or_past, get_or_push, length_push}
use Rattle.std.proofs.lemmas.List.Elements.{All-from_recursion}
use Rattle.std.proofs.lemmas.List.Sums.{count_by-le-length}
use Rattle.std.specs.List.{All, AllByRecursion}
use Rattle.std.specs.Prelude.{IfSome, IsSome, slice_index_or, ◌==◌, ◌||◌, nat_lt}
use Rattle.heap_terms.specs.declared.answers.Answer.TheVariants as answers
use Rattle.heap_terms.specs.declared.cells.Value.{Value}
use Rattle.heap_terms.specs.declared.cells.Value.TheVariants as values
use Rattle.heap_terms.specs.declared.cells.Cell.{Cell}
use Rattle.heap_terms.specs.declared.commands.Command.{Command}
use Rattle.heap_terms.specs.declared.commands.Command.TheVariants.{Fix, MakeNil, Move, NewCons, NewVector, NewInstance, NewClosure, NewWords, NewWeak, NewTable, Get, Put, RawGet, RawPut, Same, Show, Addr, SetRaw, AddRaw, Pin, Unpin, WeakVal, TablePut, TableGet, TableRem, TableCount, Collect, Inhibit, Allow, ShowPage, Stat, Finalize, Cancel, RunFinalizers}
use Rattle.heap_terms.specs.declared.events.Event.{Event}
use Rattle.heap_terms.specs.declared.kinds.Kind.{Kind}
use Rattle.heap_terms.specs.declared.programs.Program.{Program}
use Rattle.heap_terms.specs.declared.limits.TheConstants.{MOST_COMMANDS, MOST_PAGES, MOST_PINS}
use Rattle.heap_terms.specs.Cells.{cell_value, with_cell}
use Rattle.heap_terms.specs.Heap.{NamedHeap, start, thread_at, object_at, zero_value}
use Rattle.heap_terms.specs.Histories.{IsNext, after, advance, Lawful, LawfulFrom, thread_of}
use Rattle.heap_terms.specs.Layout.{page_words, size_of}
use Rattle.heap_terms.specs.Living.{AreBelow, IsLivingOrUnbound}
use Rattle.heap_terms.specs.Objects.{Object, Contents, WordsOf, WeakTo, TableOf, kind_of, payload_of}
use Rattle.heap_laws.specs.Numbers.{HasNumbers, most_passes}
use Rattle.heap_laws.specs.Plain.{ArePlainIds, IsPlainValue, IsPlainAnswer, IsPlain}
use Rattle.heap_terms.specs.Outcome.{Outcome, done, answering}
use Rattle.heap_terms.specs.Outcomes.{outcome_of}
use Rattle.heap_terms.specs.Outcomes.RawCommands.{taking}
use Rattle.heap_terms.specs.Outcomes.TableCommands.{found_outcome}
use Rattle.heap_terms.specs.Outcomes.WeakCommands.{weak_outcome}
use Rattle.heap_terms.specs.Pairs.{same_value, has_key, value_at}
use Rattle.heap_terms.specs.RawCells.{raw_value}
use Rattle.heap_terms.specs.Referents.{fields_at, name_in, raws_at, pointee_at, table_at, with_field_at, with_raws, changed_at}
use Rattle.heap_terms.specs.Regions.{committed, place_for}
use Rattle.heap_terms.specs.Valid.{IsValid, IsInRange}
use Rattle.heap_terms.specs.WellFormed.{IsWellFormed, IsLiving, HoldsLiving, IsShaped}
use Rattle.heap_laws.proofs.WellFormed.Committed.{new_object}
use Rattle.pass_laws.proofs.Ranges.{collection_plain}
use Rattle.heap_laws.proofs.Ranges.PlainPages.{view_plain}
use Rattle.heap_laws.proofs.Ranges.FinalizersFew.{HasFewFinalizers, finalizers-after, finalizers-start}
use Rattle.heap_laws.proofs.Ranges.ObjectCount.{IsCounted, after-counted, counted_few, event_thread}
use Rattle.heap_laws.proofs.Ranges.PolicyNumbers.{HasFewSums, start-few, after-few, numbers-few}
use Rattle.heap_laws.proofs.Outcomes.Parts.{by_test, needing_cases, indexing_cases, fields_refer, raws_refer, pointee_refers, table_refers}
use Rattle.heap_laws.proofs.Outcomes.PairLists.{pairs_all, value_at-living}
use Rattle.heap_laws.proofs.Outcomes.WordBounds.{word_below, word_plus-below}
use Rattle.heap_laws.proofs.Events.Causes.{by_events}
use Rattle.heap_laws.proofs.WellFormed.LivingValues.{cell_living, fields_living}
use Rattle.heap_laws.proofs.Events.OwnThread.{built_heap}
use Rattle.heap_laws.proofs.Programs.Limits.{limited}
use Rattle.heap_laws.proofs.Programs.ScriptCommands.{script_command}
use Rattle.heap_laws.proofs.Termination.EventsLeft.{history_few}
use Rattle.heap_laws.proofs.WellFormed.PagesStay.{needs_least, size_least}

-- an object that is there has a name below the number of names
pub name_below : (objects : List (Option Object)) (name : ℕ) → IsSome (object_at objects name) → name < length objects
name_below objects name h = elim (cases_lt name (length objects)) [
  | inl l ↦ l
  | inr l ↦ (let none = get_or_past objects name None l in absurd (false≢true (rw none at h)))
]

pub living_plain : (objects : List (Option Object)) (v : Value) → length objects ≤ MOST_COMMANDS → IsLiving objects v → IsPlainValue v
living_plain objects (values.Fix n) few h = h
living_plain objects values.Nil few h = tt
living_plain objects values.Unbound few h = h
living_plain objects (values.Ref name) few h = let l = name_below objects name h in omega arith

-- what a weak pointer points to, and what is found in a table
weak_plain : (a : NamedHeap) (t : ℕ) (d : Cell) (v : Value) → length a.objects ≤ MOST_COMMANDS → IsLivingOrUnbound a.objects v → IsPlainAnswer (weak_outcome a t d v).answer
weak_plain a t d (values.Fix n) few h = h
weak_plain a t d values.Nil few h = tt
weak_plain a t d values.Unbound few h = tt
weak_plain a t d (values.Ref name) few h = living_plain a.objects (values.Ref name) few h

found_plain : (a : NamedHeap) (t : ℕ) (d : Cell) (o : Option Value) → length a.objects ≤ MOST_COMMANDS → ((v : Value) → o ≡ Some v → IsLiving a.objects v) → IsPlainAnswer (found_outcome a t d o).answer
found_plain a t d None few h = tt
found_plain a t d (Some v) few h = living_plain a.objects v few (h v refl)

-- a queue that is not empty has some ids
ids_plain : (ids : List ℕ) → AreBelow (2 ^ 32) ids → AllByRecursion (λ n. n < 2 ^ 32) ids
ids_plain [] below = tt
ids_plain (id ∷ ids) below = (below 0, ids_plain ids (λ i. below (suc i)))

queue_plain : (ids : List ℕ) → (length ids == 0) ≡ false → AreBelow (2 ^ 32) ids → ArePlainIds ids
queue_plain [] some below = absurd (false≢true (sym some))
queue_plain (id ∷ ids) some below = ids_plain (id ∷ ids) below

pub answer_plain : (p : Program) (a : NamedHeap) (t : ℕ) (c : Command) → IsWellFormed p a → t < length p.threads → length a.objects ≤ MOST_COMMANDS →
    HasNumbers a most_passes → p.pages ≤ MOST_PAGES → length a.finalizers < 2 ^ 64 → IsInRange c → IsPlainAnswer (outcome_of a t c).answer
unfolding outcome_of
answer_plain p a t (Fix d n) w l few numbers pages fin r = tt
answer_plain p a t (MakeNil d) w l few numbers pages fin r = tt
answer_plain p a t (Move d c) w l few numbers pages fin r = tt
answer_plain p a t (NewCons d x y) w l few numbers pages fin r = tt
answer_plain p a t (NewVector d n) w l few numbers pages fin r = tt
answer_plain p a t (NewInstance d n) w l few numbers pages fin r = tt
answer_plain p a t (NewClosure d n) w l few numbers pages fin r = tt
answer_plain p a t (NewWords d n v) w l few numbers pages fin r = tt
answer_plain p a t (NewWeak d x) w l few numbers pages fin r = tt
answer_plain p a t (NewTable d x b) w l few numbers pages fin r = tt
answer_plain p a t (Get d x i) w l few numbers pages fin r = needing_cases (λ (o : Outcome). IsPlainAnswer o.answer) (fields_at a.objects (cell_value a t x)) a _ tt (λ vs e.
    indexing_cases (λ (o : Outcome). IsPlainAnswer o.answer) vs i zero_value a (λ v. answering (answers.Val v) (with_cell a t d v)) tt (λ below.
    let f = fields_refer a.objects (cell_value a t x) vs e in
    let holds : HoldsLiving a.objects f.0 = subst (λ (k : Contents). HoldsLiving a.objects k) f.1.holds (w.sound.objects f.1.name f.1.object f.1.there).contents in
    living_plain a.objects (slice_index_or vs i zero_value) few (fields_living a.objects f.0 vs f.2 holds i)))
answer_plain p a t (Put x i b) w l few numbers pages fin r = needing_cases (λ (o : Outcome). IsPlainAnswer o.answer) (fields_at a.objects (cell_value a t x)) a _ tt (λ vs e.
    indexing_cases (λ (o : Outcome). IsPlainAnswer o.answer) vs i zero_value a
    (λ _. done (record a { objects = with_field_at a.objects (cell_value a t x) i (cell_value a t b) })) tt (λ below. tt))
answer_plain p a t (RawGet d x i) w l few numbers pages fin r = needing_cases (λ (o : Outcome). IsPlainAnswer o.answer) (raws_at a.objects (cell_value a t x)) a _ tt (λ ws e.
    indexing_cases (λ (o : Outcome). IsPlainAnswer o.answer) ws i 0 a (λ word. taking a t d word) tt (λ below.
    let f = raws_refer a.objects (cell_value a t x) ws e in
    let shape : IsShaped (WordsOf ws) = subst (λ (k : Contents). IsShaped k) f.holds (w.sound.objects f.name f.object f.there).shape in
    shape.1 i))
answer_plain p a t (RawPut x i b) w l few numbers pages fin r = needing_cases (λ (o : Outcome). IsPlainAnswer o.answer) (raws_at a.objects (cell_value a t x)) a _ tt (λ ws e.
    indexing_cases (λ (o : Outcome). IsPlainAnswer o.answer) ws i 0 a
    (λ _. done (record a { objects = changed_at a.objects (cell_value a t x) (λ k. with_raws k (set ws i (raw_value a t b))) })) tt (λ below. tt))
answer_plain p a t (Same x y) w l few numbers pages fin r = by_test IsPlainAnswer (same_value (cell_value a t x) (cell_value a t y)) answers.Yes answers.No (λ e. tt) (λ e. tt)
answer_plain p a t (Show x) w l few numbers pages fin r = living_plain a.objects (cell_value a t x) few (cell_living p a t x w l)
answer_plain p a t (Addr d x) w l few numbers pages fin r = word_below a (cell_value a t x) w.sound (omega (arith, w.pages_length, pages)) (cell_living p a t x w l)
answer_plain p a t (SetRaw d v) w l few numbers pages fin r = tt
answer_plain p a t (AddRaw d k) w l few numbers pages fin r = word_plus-below (raw_value a t d) k
answer_plain p a t (Pin x) w l few numbers pages fin r = by_test (λ (o : Outcome). IsPlainAnswer o.answer) (nat_lt (length (thread_at a t).pins) MOST_PINS) _ _ (λ e. tt) (λ e. tt)
answer_plain p a t Unpin w l few numbers pages fin r = by_test (λ (o : Outcome). IsPlainAnswer o.answer) (length (thread_at a t).pins == 0) _ _ (λ e. tt) (λ e. tt)
answer_plain p a t (WeakVal d x) w l few numbers pages fin r = needing_cases (λ (o : Outcome). IsPlainAnswer o.answer) (pointee_at a.objects (cell_value a t x)) a _ tt (λ v e.
    let f = pointee_refers a.objects (cell_value a t x) v e in
    let holds : HoldsLiving a.objects (WeakTo v) = subst (λ (k : Contents). HoldsLiving a.objects k) f.holds (w.sound.objects f.name f.object f.there).contents in
    weak_plain a t d v few holds)
answer_plain p a t (TablePut x k v) w l few numbers pages fin r = needing_cases (λ (o : Outcome). IsPlainAnswer o.answer) (table_at a.objects (cell_value a t x)) a _ tt (λ table e.
    by_test (λ (o : Outcome). IsPlainAnswer o.answer) (has_key table.pairs (cell_value a t k) || nat_lt (length table.pairs) table.capacity) _ _ (λ e. tt) (λ e. tt))
answer_plain p a t (TableGet d x k) w l few numbers pages fin r = needing_cases (λ (o : Outcome). IsPlainAnswer o.answer) (table_at a.objects (cell_value a t x)) a _ tt (λ table e.
    let f = table_refers a.objects (cell_value a t x) table e in
    let holds : HoldsLiving a.objects (TableOf table.weakness table.capacity table.pairs) = subst (λ (k : Contents). HoldsLiving a.objects k) f.holds (w.sound.objects f.name f.object f.there).contents in
    found_plain a t d (value_at table.pairs (cell_value a t k)) few (λ v found. value_at-living a.objects table.pairs (cell_value a t k) v (pairs_all a.objects table.pairs holds) found))
answer_plain p a t (TableRem x k) w l few numbers pages fin r = needing_cases (λ (o : Outcome). IsPlainAnswer o.answer) (table_at a.objects (cell_value a t x)) a _ tt (λ table e.
    by_test (λ (o : Outcome). IsPlainAnswer o.answer) (has_key table.pairs (cell_value a t k)) _ _ (λ e. tt) (λ e. tt))
answer_plain p a t (TableCount x) w l few numbers pages fin r = needing_cases (λ (o : Outcome). IsPlainAnswer o.answer) (table_at a.objects (cell_value a t x)) a _ tt (λ table e.
    let f = table_refers a.objects (cell_value a t x) table e in
    let shape : IsShaped (TableOf table.weakness table.capacity table.pairs) = subst (λ (k : Contents). IsShaped k) f.holds (w.sound.objects f.name f.object f.there).shape in
    omega (arith, shape.1, shape.2))
answer_plain p a t (Collect g) w l few numbers pages fin r = tt
answer_plain p a t Inhibit w l few numbers pages fin r = tt
answer_plain p a t Allow w l few numbers pages fin r = by_test (λ (o : Outcome). IsPlainAnswer o.answer) ((thread_at a t).inhibits == 0) _ _ (λ e. tt) (λ e. tt)
answer_plain p a t (ShowPage q) w l few numbers pages fin r = by_test (λ (o : Outcome). IsPlainAnswer o.answer) (nat_lt q (length a.pages)) _ _
    (λ e. view_plain p a q w few pages (ltb-true q (length a.pages) e)) (λ e. tt)
answer_plain p a t (Stat g) w l few numbers pages fin r = (
  (let most = numbers.words g in omega arith),
  (let most = numbers.cum g in omega arith),
  (let most = numbers.num g in omega arith),
)
answer_plain p a t (Finalize x id) w l few numbers pages fin r = needing_cases (λ (o : Outcome). IsPlainAnswer o.answer) (name_in (cell_value a t x)) a _ tt (λ name e. tt)
answer_plain p a t (Cancel x) w l few numbers pages fin r = needing_cases (λ (o : Outcome). IsPlainAnswer o.answer) (name_in (cell_value a t x)) a _ tt
    (λ name e. (let most = count_by-le-length (λ (entry : ℕ × ℕ). entry.0 == name) a.finalizers in omega arith))
answer_plain p a t RunFinalizers w l few numbers pages fin r = by_test (λ (o : Outcome). IsPlainAnswer o.answer) (length a.queue == 0) _ _ (λ e. tt) (λ e. queue_plain a.queue e w.sound.queue)

-- where a new object lies in the heap after its commit
built_inside : (p : Program) (a b : NamedHeap) (t : ℕ) (c : Command) (kind : Kind) (n : ℕ) → IsWellFormed p b →
    b.objects ≡ a.objects ++ Some (new_object a t c (place_for a t kind (size_of kind n))) ∷ [] → place_for a t kind (size_of kind n) < page_words * p.pages
built_inside p a b t c kind n w objects =
    let o = new_object a t c (place_for a t kind (size_of kind n)) in
    let there : object_at b.objects (length a.objects) ≡ Some o =
    ap (λ (os : List (Option Object)). object_at os (length a.objects)) objects ∙ get_or_push a.objects (Some o) None (length a.objects) refl in
    let inside = (w.sound.objects (length a.objects) o there).placed.inside in
    let least = size_least (kind_of o.contents) (payload_of o.contents) in
    let pages = w.pages_length in
    omega arith

-- a thread owes no more than a full collection
owed_most : (o : Option ℕ) (last : ℕ) → IfSome o (λ g. g ≤ 5) → o ≡ Some last → last ≤ 5
owed_most None last h e = cc
owed_most (Some g) last h e = let same : g ≡ last = cc in subst (λ (x : ℕ). x ≤ 5) same h

-- each event from a heap that a valid program left
pub event_plain : (p : Program) (a : NamedHeap) (e : Event) → IsValid p → HasFewSums p a → length a.finalizers < 2 ^ 64 → IsNext p a e → IsPlain e
event_plain p a e valid h fin next =
    let w = h.counted.formed in
    let few = counted_few p a valid h.counted in
    let threads = valid.threads_most in
    let pages = valid.pages_most in
    let pages_length = w.pages_length in
    let plain : IsCounted p (after p a e) → thread_of e < length p.threads → IsPlain e = by_events p a (λ e b. IsCounted p b → thread_of e < length p.threads → IsPlain e)
    (λ t c answer d later l. (
      omega arith,
      script_command p t (thread_at a t).done c valid d.command,
      rw d.answered (answer_plain p a t c w l few (numbers-few p a valid h) pages fin (script_command p t (thread_at a t).done c valid d.command).in_range),
    ))
    (λ t c answer d later l. (omega arith, script_command p t (thread_at a t).done c valid d.command, rw d.answered tt))
    (λ t c answer kind n seed d later l. (
      omega arith,
      script_command p t (thread_at a t).done c valid d.command,
      (let built = built_heap p a t c kind n in
          let more = counted_few p _ valid later in
          let o = new_object a t c (place_for a t kind (size_of kind n)) in
          let name : length a.objects < MOST_COMMANDS = omega (arith, ap length built.objects, length_push a.objects (Some o)) in
          let inside = built_inside p a (advance (committed p a t c kind n) t) t c kind n later.formed built.objects in
          rw d.answered (name, omega arith)),
    ))
    (λ t ty first k d later l.
    let inside = d.lowest.run.inside in
    let least : 1 ≤ k = rw d.count_is (needs_least (size_of d.kind d.n)) in
    (omega arith, omega arith, least, omega arith))
    (λ t last passes d later l. (omega arith, owed_most (thread_at a t).owed last (w.threads t l).owed d.owes, collection_plain p a last passes w pages few d.collection))
    (λ t d later l. omega arith)
    e next in
    plain (after-counted p (limited p valid) a e next h.counted) (event_thread p a e (limited p valid) w next)

events_plain : (p : Program) (a : NamedHeap) (h : List Event) (n : ℕ) → IsValid p → HasFewSums p a → HasFewFinalizers n a → n + length h < 2 ^ 64 → LawfulFrom p a h → AllByRecursion IsPlain h
events_plain p a [] n valid few fin short lawful = tt
events_plain p a (e ∷ es) n valid few fin short lawful = (
  event_plain p a e valid few (omega arith) lawful.0,
  events_plain p (after p a e) es (n + 1) valid (after-few p valid a e lawful.0 few) (finalizers-after p a e n lawful.0 fin) (omega arith) lawful.1,
)

-- each event of a lawful history of a valid program is plain
pub history_plain : (p : Program) (h : List Event) → IsValid p → Lawful p h → All IsPlain h
history_plain p h valid lawful =
    let short = history_few p h valid lawful in
    All-from_recursion IsPlain h (events_plain p (start p) h 0 valid (start-few p valid) (finalizers-start p) (omega arith) lawful)
