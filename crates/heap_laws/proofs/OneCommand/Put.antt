-- A `put`: what is read after it, and what it leaves.
use Rattle.std.proofs.Common.{◌≡◌, ◌≢◌, ℕ, zero, suc, ◌+◌, ◌<◌, List, [], ◌∷◌, length, Option, Some, None, true, false, ◌⊎◌, inl, inr, refl, sym, ◌∙◌, ap, subst, arith, ltb, get_or, set}
use Rattle.std.proofs.lemmas.Bool.{cases_eq, cases_Bool, ltb-true}
use Rattle.std.proofs.lemmas.List.{get_or-set_same, get_or-set_other, length-set}
use Rattle.std.specs.Prelude.{slice_get, option_and_then, option_map}
use Rattle.heap_terms.specs.declared.answers.Answer.{Answer}
use Rattle.heap_terms.specs.declared.answers.Answer.TheVariants as answers
use Rattle.heap_terms.specs.declared.answers.Refusal.TheVariants.{OutOfRange}
use Rattle.heap_terms.specs.declared.cells.Cell.{Cell}
use Rattle.heap_terms.specs.declared.cells.Cell.TheVariants.{Stack, Exact, Shared}
use Rattle.heap_terms.specs.declared.cells.Value.{Value}
use Rattle.heap_terms.specs.declared.cells.Value.TheVariants as values
use Rattle.heap_terms.specs.declared.commands.Command.TheVariants.{Get, Put}
use Rattle.heap_terms.specs.declared.events.Event.TheVariants.{Did}
use Rattle.heap_terms.specs.declared.programs.Program.{Program}
use Rattle.heap_terms.specs.Cells.{cell_value}
use Rattle.heap_terms.specs.Heap.{NamedHeap, Thread, object_at, thread_at, zero_value}
use Rattle.heap_terms.specs.Histories.{IsNext, after, advance}
use Rattle.heap_terms.specs.Objects.{Object, Contents, ConsOf, VectorOf, InstanceOf, ClosureOf, WordsOf, WeakTo, TableOf, fields_of, kind_of}
use Rattle.heap_terms.specs.Outcome.{Outcome, done, needing, indexing}
use Rattle.heap_terms.specs.Outcomes.{outcome_of}
use Rattle.heap_terms.specs.Referents.{contents_of, fields_at, with_field, with_field_at, refilled}
use Rattle.heap_laws.specs.CommandLaws.{LeavesTheRest, field_at}
use Rattle.heap_laws.proofs.Outcomes.Parts.{by_needing, by_indexing, fields_refer, with_field-kind}
use Rattle.heap_laws.proofs.Lists.Places.{IsSome-from}
use Rattle.heap_laws.proofs.OneCommand.Outcome.{simple_outcome}
use Rattle.heap_laws.proofs.Ranges.PlainEvents.{name_below}
use Rattle.heap_laws.proofs.WellFormed.Threads.{thread_cases}

-- a command further, no cell has changed
pub advance-cells : (a : NamedHeap) (t u : ℕ) (c : Cell) → cell_value (advance a t) u c ≡ cell_value a u c
advance-cells a t u (Stack i) = elim (thread_cases a t u (record (thread_at a t) { done = (thread_at a t).done + 1 })) [
  | inl e ↦ ap (λ (th : Thread). get_or th.stack i zero_value) e
  | inr e ↦ ap (λ (th : Thread). get_or th.stack i zero_value) e.2 ∙ ap (λ (n : ℕ). get_or (thread_at a n).stack i zero_value) (sym e.0)
]
advance-cells a t u (Exact i) = elim (thread_cases a t u (record (thread_at a t) { done = (thread_at a t).done + 1 })) [
  | inl e ↦ ap (λ (th : Thread). get_or th.exact i zero_value) e
  | inr e ↦ ap (λ (th : Thread). get_or th.exact i zero_value) e.2 ∙ ap (λ (n : ℕ). get_or (thread_at a n).exact i zero_value) (sym e.0)
]
advance-cells a t u (Shared i) = refl

advance-raws : (a : NamedHeap) (t u : ℕ) → (thread_at (advance a t) u).raws ≡ (thread_at a u).raws
advance-raws a t u = elim (thread_cases a t u (record (thread_at a t) { done = (thread_at a t).done + 1 })) [
  | inl e ↦ ap (λ (th : Thread). th.raws) e
  | inr e ↦ ap (λ (th : Thread). th.raws) e.2 ∙ ap (λ (n : ℕ). (thread_at a n).raws) (sym e.0)
]

advance-pins : (a : NamedHeap) (t u : ℕ) → (thread_at (advance a t) u).pins ≡ (thread_at a u).pins
advance-pins a t u = elim (thread_cases a t u (record (thread_at a t) { done = (thread_at a t).done + 1 })) [
  | inl e ↦ ap (λ (th : Thread). th.pins) e
  | inr e ↦ ap (λ (th : Thread). th.pins) e.2 ∙ ap (λ (n : ℕ). (thread_at a n).pins) (sym e.0)
]

-- the fields after one of them was written
pub fields_with_field : (k : Contents) (vs : List Value) (i : ℕ) (w : Value) → fields_of k ≡ Some vs → i < length vs → fields_of (with_field k i w) ≡ Some (set vs i w)
fields_with_field (ConsOf a b) vs i w e l =
    let same : vs ≡ a ∷ b ∷ [] = cc in
    let low : i < 2 = omega (arith, ap length same) in
    at i low ∙ ap (λ (xs : List Value). Some (set xs i w)) (sym same)
  where
    at : (i : ℕ) → i < 2 → fields_of (with_field (ConsOf a b) i w) ≡ Some (set (a ∷ b ∷ []) i w)
    at zero l = refl
    at (suc zero) l = refl
    at (suc (suc i)) l = absurd (omega arith)
fields_with_field (VectorOf xs) vs i w e l = let same : xs ≡ vs = cc in ap (λ (ys : List Value). Some (set ys i w)) same
fields_with_field (InstanceOf xs) vs i w e l = let same : xs ≡ vs = cc in ap (λ (ys : List Value). Some (set ys i w)) same
fields_with_field (ClosureOf xs) vs i w e l = let same : xs ≡ vs = cc in ap (λ (ys : List Value). Some (set ys i w)) same
fields_with_field (WordsOf ws) vs i w e l = cc
fields_with_field (WeakTo x) vs i w e l = cc
fields_with_field (TableOf x b pairs) vs i w e l = cc

-- a `put` that is done finds the field
put_done : (o : Option (List Value)) (i : ℕ) (a : NamedHeap) (go : Value → Outcome) → answers.Done ≡ (needing o a (λ vs. indexing vs i zero_value a go)).answer →
    (vs : List Value) × (o ≡ Some vs) × (ltb i (length vs) ≡ true)
put_done None i a go e = cc
put_done (Some vs) i a go e = (vs, refl, at (cases_Bool (ltb i (length vs))))
  where
    at : (ltb i (length vs) ≡ true) ⊎ (ltb i (length vs) ≡ false) → ltb i (length vs) ≡ true
    at (inl here) = here
    at (inr gone) = (let never : answers.Done ≡ answers.Refused OutOfRange = rw gone at e in cc)

-- a value that has fields refers to an object that has them
fields_named : (objects : List (Option Object)) (v : Value) (vs : List Value) → fields_at objects v ≡ Some vs →
    (name : ℕ) × (o : Object) × (v ≡ values.Ref name) × (object_at objects name ≡ Some o) × (fields_of o.contents ≡ Some vs)
fields_named objects v vs e =
    let parts = fields_refer objects v vs e in
    let r = parts.1 in
    (r.name, r.object, r.is, r.there, ap fields_of r.holds ∙ parts.2)

-- the fields of the object that a value refers to, after one of them was written
pub fields_at-written : (objects : List (Option Object)) (at w : Value) (i : ℕ) (vs : List Value) → fields_at objects at ≡ Some vs → i < length vs →
    fields_at (with_field_at objects at i w) at ≡ Some (set vs i w)
fields_at-written objects at w i vs found l =
    let named = fields_named objects at vs found in
    let name = named.0 in
    let o = named.1 in
    let there : object_at objects name ≡ Some o = named.3 in
    let below : name < length objects = name_below objects name (IsSome-from (object_at objects name) o there) in
    let now : object_at (with_field_at objects (values.Ref name) i w) name ≡ Some (record o { contents = with_field o.contents i w }) =
    get_or-set_same objects name (refilled (object_at objects name) (λ k. with_field k i w)) None below ∙ ap (λ (x : Option Object). refilled x (λ k. with_field k i w)) there in
    subst (λ (v : Value). fields_at (with_field_at objects v i w) v ≡ Some (set vs i w)) (sym named.2)
    (ap (λ (x : Option Object). option_and_then fields_of (contents_of x)) now ∙ fields_with_field o.contents vs i w named.4 l)

pub read_after_put : (p : Program) (a : NamedHeap) (t : ℕ) (c : Cell) (i : ℕ) (b : Cell) → IsNext p a (Did t (Put c i b) answers.Done) →
    (u : ℕ) (d e : Cell) (answer : Answer) → cell_value (after p a (Did t (Put c i b) answers.Done)) u e ≡ cell_value a t c →
    IsNext p (after p a (Did t (Put c i b) answers.Done)) (Did u (Get d e i) answer) → answer ≡ answers.Val (cell_value a t b)
unfolding outcome_of
read_after_put p a t c i b put u d e answer same get =
    let at = cell_value a t c in
    let w = cell_value a t b in
    let first = simple_outcome p a t (Put c i b) answers.Done refl put in
    let found = put_done (fields_at a.objects at) i a (λ _. done (record a { objects = with_field_at a.objects at i w })) first.0 in
    let l : i < length found.0 = ltb-true i (length found.0) found.2 in
    let new : NamedHeap = record a { objects = with_field_at a.objects at i w } in
    let changed : (outcome_of a t (Put c i b)).heap ≡ new = rw (found.1, found.2) refl in
    let heap : after p a (Did t (Put c i b) answers.Done) ≡ advance new t = first.1 ∙ ap (λ (x : NamedHeap). advance x t) changed in
    let second = simple_outcome p (after p a (Did t (Put c i b) answers.Done)) u (Get d e i) answer refl get in
    let fields : fields_at (after p a (Did t (Put c i b) answers.Done)).objects (cell_value (after p a (Did t (Put c i b) answers.Done)) u e) ≡ Some (set found.0 i w) =
    ap (fields_at (after p a (Did t (Put c i b) answers.Done)).objects) same
    ∙ ap (λ (x : NamedHeap). fields_at x.objects at) heap ∙ fields_at-written a.objects at w i found.0 found.1 l in
    let inside : ltb i (length (set found.0 i w)) ≡ true = rw (length-set found.0 i w) found.2 in
    let said : answer ≡ answers.Val (get_or (set found.0 i w) i zero_value) = rw (fields, inside) at second.0 in
    let holds : get_or (set found.0 i w) i zero_value ≡ w = get_or-set_same found.0 i w zero_value l in
    said ∙ ap (λ (v : Value). answers.Val v) holds

get-set_other : {X : Type 0} (xs : List X) (i j : ℕ) (y : X) → j ≢ i → slice_get (set xs i y) j ≡ slice_get xs j
get-set_other [] i j y n = refl
get-set_other (x ∷ xs) zero zero y n = absurd (n refl)
get-set_other (x ∷ xs) zero (suc j) y n = refl
get-set_other (x ∷ xs) (suc i) zero y n = refl
get-set_other (x ∷ xs) (suc i) (suc j) y n = get-set_other xs i j y (λ e. n (ap suc e))

-- only the place in the script has changed
unchanged : (a : NamedHeap) (t : ℕ) (at : Value) (i : ℕ) → LeavesTheRest a (advance a t) at i
unchanged a t at i = record {
  pages = refl;
  cells = λ u c. advance-cells a t u c;
  raws = λ u. advance-raws a t u;
  pins = λ u. advance-pins a t u;
  objects = λ name n. refl;
  fields = λ name j n. refl;
  kinds = λ name. refl;
  places = λ name. refl;
}

-- a field of an object was written
module _ (a : NamedHeap) (t x i : ℕ) (w : Value) (vs : List Value) (o : Object) (there : object_at a.objects x ≡ Some o)
    (found : fields_at a.objects (values.Ref x) ≡ Some vs) (l : i < length vs) where
  abbrev new : NamedHeap
  new = record a { objects = with_field_at a.objects (values.Ref x) i w }

  at_x : object_at new.objects x ≡ Some (record o { contents = with_field o.contents i w })
  at_x =
      get_or-set_same a.objects x (refilled (object_at a.objects x) (λ k. with_field k i w)) None (name_below a.objects x (IsSome-from (object_at a.objects x) o there))
      ∙ ap (λ (y : Option Object). refilled y (λ k. with_field k i w)) there

  elsewhere : (name : ℕ) → name ≢ x → object_at new.objects name ≡ object_at a.objects name
  elsewhere name n = get_or-set_other a.objects x name (refilled (object_at a.objects x) (λ k. with_field k i w)) None n

  -- what is the same of the object that was written is the same of all
  of_each : {Y : Type 0} (f : Option Object → Y) → f (Some (record o { contents = with_field o.contents i w })) ≡ f (Some o) →
      (name : ℕ) → f (object_at new.objects name) ≡ f (object_at a.objects name)
  of_each f same name = elim (cases_eq name x) [
    | inl e ↦ ap (λ (n : ℕ). f (object_at new.objects n)) e ∙ ap f at_x ∙ same ∙ sym (ap f there) ∙ ap (λ (n : ℕ). f (object_at a.objects n)) (sym e)
    | inr n ↦ ap f (elsewhere name n)
  ]

  other_fields : (name j : ℕ) → j ≢ i → field_at new.objects name j ≡ field_at a.objects name j
  other_fields name j n = elim (cases_eq name x) [
    | inl e ↦ (
        let get : Option (List Value) → Option Value = λ o. option_and_then (λ fields. slice_get fields j) o in
        ap (λ (y : ℕ). get (fields_at new.objects (values.Ref y))) e
        ∙ ap get (fields_at-written a.objects (values.Ref x) w i vs found l) ∙ get-set_other vs i j w n ∙ sym (ap get found)
        ∙ ap (λ (y : ℕ). get (fields_at a.objects (values.Ref y))) (sym e))
    | inr other ↦ ap (λ (y : Option Object). option_and_then (λ fields. slice_get fields j) (option_and_then fields_of (contents_of y))) (elsewhere name other)
  ]

  written : LeavesTheRest a (advance new t) (values.Ref x) i
  written = record {
    pages = refl;
    cells = λ u c. advance-cells new t u c ∙ same_cells u c;
    raws = λ u. advance-raws new t u;
    pins = λ u. advance-pins new t u;
    objects = λ name n. elsewhere name (λ e. n (ap (λ (y : ℕ). values.Ref y) (sym e)));
    fields = other_fields;
    kinds = of_each (λ y. option_map (λ (q : Object). kind_of q.contents) y) (ap (λ (k : _). Some k) (with_field-kind o.contents i w));
    places = of_each (λ y. option_map (λ (q : Object). q.place) y) refl;
  }
    where
      same_cells : (u : ℕ) (c : Cell) → cell_value new u c ≡ cell_value a u c
      same_cells u (Stack k) = refl
      same_cells u (Exact k) = refl
      same_cells u (Shared k) = refl

pub put_leaves : (p : Program) (a : NamedHeap) (t : ℕ) (c : Cell) (i : ℕ) (b : Cell) (answer : Answer) → IsNext p a (Did t (Put c i b) answer) →
    LeavesTheRest a (after p a (Did t (Put c i b) answer)) (cell_value a t c) i
unfolding outcome_of
put_leaves p a t c i b answer put =
    let at = cell_value a t c in
    let w = cell_value a t b in
    let outcome = simple_outcome p a t (Put c i b) answer refl put in
    subst (λ (y : NamedHeap). LeavesTheRest a y at i) (sym outcome.1)
    (by_needing (λ (y : NamedHeap). LeavesTheRest a (advance y t) at i) (fields_at a.objects at) a
    (λ vs. indexing vs i zero_value a (λ _. done (record a { objects = with_field_at a.objects at i w }))) (unchanged a t at i)
    (λ vs found. by_indexing (λ (y : NamedHeap). LeavesTheRest a (advance y t) at i) vs i zero_value a
    (λ _. done (record a { objects = with_field_at a.objects at i w })) (unchanged a t at i)
    (λ l.
    let named = fields_named a.objects at vs found in
    subst (λ (v : Value). LeavesTheRest a (advance (record a { objects = with_field_at a.objects v i w }) t) v i) (sym named.2)
    (written a t named.0 i w vs named.1 named.3 (subst (λ (v : Value). fields_at a.objects v ≡ Some vs) named.2 found) l))))
