-- What the commands on finalizers answer and change.
use Rattle.std.proofs.Common.{◌≡◌, ◌≢◌, ℕ, List, [], ◌∷◌, ◌++◌, length, filter, count_by, not, Bool, true, false, refl, sym, ◌∙◌, subst, ap, ap₂, Option, None, inl, inr}
use Rattle.std.proofs.lemmas.Bool.{cases_eq, cases_Bool, eq-eqb, ne_eqb}
use Rattle.std.proofs.lemmas.List.{map-append, length-map}
use Rattle.std.proofs.lemmas.List.Sums.{length-filter}
use Rattle.std.proofs.lemmas.List.Elements.{All-head, All-tail}
use Rattle.std.specs.Prelude.{All, IsSome, if◌then◌else◌, ◌==◌}
use Rattle.heap_terms.specs.declared.answers.Answer.TheVariants as answers
use Rattle.heap_terms.specs.declared.answers.Refusal.TheVariants.{NotType}
use Rattle.heap_terms.specs.declared.cells.Cell.{Cell}
use Rattle.heap_terms.specs.declared.cells.Value.{Value}
use Rattle.heap_terms.specs.declared.cells.Value.TheVariants.{Ref}
use Rattle.heap_terms.specs.declared.commands.Command.TheVariants as commands
use Rattle.heap_terms.specs.Cells.{cell_value}
use Rattle.heap_terms.specs.Heap.{NamedHeap, object_at}
use Rattle.heap_terms.specs.Objects.{Object}
use Rattle.heap_terms.specs.Outcome.{Outcome, done, answering, refused, needing}
use Rattle.heap_terms.specs.Outcomes.{outcome_of}
use Rattle.heap_terms.specs.Referents.{name_in}
use Rattle.heap_terms.specs.Sound.{IsFinalizer}
use Rattle.heap_terms.specs.Spelling.{word_of}
use Rattle.finalizers.specs.declared.lists.Registration.{Registration}
use Rattle.finalizers.specs.Lists.{Lists, is_of}
use Rattle.finalizers.specs.Standing.{FinalizersStand, registrations, registration_of}
use Rattle.lisp_heap.specs.FinalizerPlan.{IsFinalizerPlan, count_for, with_one_more, without, without_queue}
use Rattle.lisp_heap.specs.Plan.{IsPlan}
use Rattle.lisp_heap.specs.LivingWords.{RefersTo}
use Rattle.lisp_heap.specs.View.{View, heap_of}
use Rattle.lisp_heap.specs.WorldSound.{IsSound, view_of}
use Rattle.lisp_heap.specs.declared.plan.Change.TheVariants as changes
use Rattle.lisp_heap.specs.declared.world.World.TheInside.{Inside}
use Rattle.lisp_heap.proofs.Plans.{planned}
use Rattle.lisp_heap.proofs.Referring.{same_words}
use Rattle.lisp_heap.proofs.Soundness.{heap, well_formed}

-- ---- refusals

finalize_outcome : (a : NamedHeap) (t : ℕ) (c : Cell) (id : ℕ) →
    outcome_of a t (commands.Finalize c id) ≡ needing (name_in (cell_value a t c)) a (λ name. done (record a { finalizers = a.finalizers ++ (name, id) ∷ [] }))
unfolding outcome_of
finalize_outcome a t c id = refl

cancel_outcome : (a : NamedHeap) (t : ℕ) (c : Cell) → outcome_of a t (commands.Cancel c) ≡ needing (name_in (cell_value a t c)) a (λ name.
    answering (answers.Count (count_by (λ entry. entry.0 == name) a.finalizers)) (record a { finalizers = filter (λ entry. not (entry.0 == name)) a.finalizers }))
unfolding outcome_of
cancel_outcome a t c = refl

pub finalize_refused : (a : NamedHeap) (t : ℕ) (c : Cell) (id : ℕ) → name_in (cell_value a t c) ≡ None → IsPlan a t (commands.Finalize c id) (answers.Refused NotType) changes.Nothing
finalize_refused a t c id none = planned a t (commands.Finalize c id) (refused NotType a) (answers.Refused NotType) changes.Nothing
    (finalize_outcome a t c id ∙ ap (λ (o : Option ℕ). needing o a (λ name. done (record a { finalizers = a.finalizers ++ (name, id) ∷ [] }))) none) refl refl

pub cancel_refused : (a : NamedHeap) (t : ℕ) (c : Cell) → name_in (cell_value a t c) ≡ None → IsPlan a t (commands.Cancel c) (answers.Refused NotType) changes.Nothing
cancel_refused a t c none = planned a t (commands.Cancel c) (refused NotType a) (answers.Refused NotType) changes.Nothing
    (cancel_outcome a t c ∙ ap (λ (o : Option ℕ). needing o a (λ name.
    answering (answers.Count (count_by (λ entry. entry.0 == name) a.finalizers)) (record a { finalizers = filter (λ entry. not (entry.0 == name)) a.finalizers }))) none) refl refl

-- ---- one more

pub finalize_is : (a : NamedHeap) (f : Lists) (t : ℕ) (c : Cell) (id name word : ℕ) → FinalizersStand a f → cell_value a t c ≡ Ref name → word ≡ word_of a.objects (cell_value a t c) →
    IsFinalizerPlan a t (commands.Finalize c id) answers.Done (with_one_more f word id)
finalize_is a f t c id name word stand refers word_is =
    let w = λ (name : ℕ). word_of a.objects (Ref name) in
    let outcome : outcome_of a t (commands.Finalize c id) ≡ done (record a { finalizers = a.finalizers ++ (name, id) ∷ [] }) =
    finalize_outcome a t c id ∙ ap (λ (v : Value). needing (name_in v) a (λ name. done (record a { finalizers = a.finalizers ++ (name, id) ∷ [] }))) refers in
    record {
      list = a.finalizers ++ (name, id) ∷ [];
      queue = a.queue;
      answers = sym (ap (λ (o : Outcome). o.answer) outcome);
      effect = ap (λ (o : Outcome). o.heap) outcome;
      stand = record {
        registered = ap (λ (xs : List Registration). xs ++ record { object = word; id = id } ∷ []) stand.registered
            ∙ ap (λ (u : ℕ). registrations w a.finalizers ++ record { object = u; id = id } ∷ []) (word_is ∙ ap (word_of a.objects) refers)
            ∙ sym (map-append (registration_of w) a.finalizers ((name, id) ∷ []));
        queue = stand.queue;
      };
    }

-- ---- all of an object's

module _ (w : ℕ → ℕ) (objects : List _) (name : ℕ) (same : (x : ℕ) → IsSome (object_at objects x) → (w x == w name) ≡ (x == name)) where
  -- those that some test of "is of this object" keeps
  kept_registered : (keep : Bool → Bool) (xs : List (ℕ × ℕ)) → All (IsFinalizer objects) xs →
      filter (λ r. keep (is_of (w name) r)) (registrations w xs) ≡ registrations w (filter (λ (entry : ℕ × ℕ). keep (entry.0 == name)) xs)
  kept_registered keep [] all = refl
  kept_registered keep (entry ∷ xs) all =
      let own = ap keep (same entry.0 (All-head (IsFinalizer objects) entry xs all).there) in
      let rest = kept_registered keep xs (All-tail (IsFinalizer objects) entry xs all) in
      elim (cases_Bool (keep (entry.0 == name))) [
        | inl hit ↦ (let found : keep (w entry.0 == w name) ≡ true = own ∙ hit in rw (found, hit) (ap (λ (rs : List Registration). registration_of w entry ∷ rs) rest))
        | inr miss ↦ (let found : keep (w entry.0 == w name) ≡ false = own ∙ miss in rw (found, miss) rest)
      ]

  counted_registered : (xs : List (ℕ × ℕ)) → All (IsFinalizer objects) xs → count_by (is_of (w name)) (registrations w xs) ≡ count_by (λ (entry : ℕ × ℕ). entry.0 == name) xs
  counted_registered xs all =
      sym (length-filter (is_of (w name)) (registrations w xs)) ∙ ap length (kept_registered (λ b. b) xs all)
      ∙ length-map (filter (λ (entry : ℕ × ℕ). entry.0 == name) xs) (registration_of w) ∙ length-filter (λ (entry : ℕ × ℕ). entry.0 == name) xs

same_name : (s : Inside) → IsSound s → (x y : ℕ) → IsSome (object_at (heap s).objects x) → IsSome (object_at (heap s).objects y) →
    (word_of (heap s).objects (Ref x) == word_of (heap s).objects (Ref y)) ≡ (x == y)
same_name s h x y hx hy = elim (cases_eq x y) [
  | inl e ↦ eq-eqb (word_of (heap s).objects (Ref x)) (word_of (heap s).objects (Ref y)) (ap (λ (n : ℕ). word_of (heap s).objects (Ref n)) e) ∙ sym (eq-eqb x y e)
  | inr n ↦ ne_eqb (word_of (heap s).objects (Ref x)) (word_of (heap s).objects (Ref y)) (λ e. (let same = same_words s h (Ref x) (Ref y) hx hy e in n cc)) ∙ sym (ne_eqb x y n)
]

pub cancel_is : (s : Inside) → IsSound s → (t : ℕ) (c : Cell) (name word : ℕ) → IsSome (object_at (heap s).objects name) → cell_value (heap s) t c ≡ Ref name →
    word ≡ word_of (heap s).objects (cell_value (heap s) t c) →
    IsFinalizerPlan (heap s) t (commands.Cancel c) (answers.Count (count_for s.finalizers word)) (without s.finalizers word)
cancel_is s h t c name word there refers word_is =
    let a = heap s in
    let w = λ (name : ℕ). word_of a.objects (Ref name) in
    let stand = h.holds.finalizers in
    let all = (well_formed s h).sound.finalizers in
    let is : word ≡ w name = word_is ∙ ap (word_of a.objects) refers in
    let same = λ (x : ℕ) (hx : IsSome (object_at a.objects x)). same_name s h x name hx there in
    let outcome : outcome_of a t (commands.Cancel c) ≡ answering (answers.Count (count_by (λ entry. entry.0 == name) a.finalizers)) (record a { finalizers = filter (λ entry. not (entry.0 == name)) a.finalizers }) =
    cancel_outcome a t c ∙ ap (λ (v : Value). needing (name_in v) a (λ name.
    answering (answers.Count (count_by (λ entry. entry.0 == name) a.finalizers)) (record a { finalizers = filter (λ entry. not (entry.0 == name)) a.finalizers }))) refers in
    record {
      list = filter (λ entry. not (entry.0 == name)) a.finalizers;
      queue = a.queue;
      answers = ap answers.Count (ap₂ (λ (u : ℕ) (xs : List Registration). count_by (is_of u) xs) is stand.registered ∙ counted_registered w a.objects name same a.finalizers all)
          ∙ sym (ap (λ (o : Outcome). o.answer) outcome);
      effect = ap (λ (o : Outcome). o.heap) outcome;
      stand = record {
        registered = ap₂ (λ (u : ℕ) (xs : List Registration). filter (λ r. not (is_of u r)) xs) is stand.registered ∙ kept_registered w a.objects name same not a.finalizers all;
        queue = stand.queue;
      };
    }

-- ---- the queue

pub run_none : (a : NamedHeap) (t : ℕ) → length a.queue ≡ 0 → IsPlan a t commands.RunFinalizers answers.Absent changes.Nothing
unfolding outcome_of
run_none a t none =
    let empty : (length a.queue == 0) ≡ true = eq-eqb (length a.queue) 0 none in
    record {
      answers = sym (ap (λ (b : Bool). (if b then answering answers.Absent a else answering (answers.Ran a.queue) (record a { queue = [] })).answer) empty);
      makes = ap (λ (b : Bool). (if b then answering answers.Absent a else answering (answers.Ran a.queue) (record a { queue = [] })).heap) empty;
    }

pub run_is : (a : NamedHeap) (f : Lists) (t : ℕ) → FinalizersStand a f → length a.queue ≢ 0 → IsFinalizerPlan a t commands.RunFinalizers (answers.Ran f.queue) (without_queue f)
unfolding outcome_of
run_is a f t stand some =
    let full : (length a.queue == 0) ≡ false = ne_eqb (length a.queue) 0 some in
    record {
      list = a.finalizers;
      queue = [];
      answers = ap answers.Ran stand.queue
          ∙ sym (ap (λ (b : Bool). (if b then answering answers.Absent a else answering (answers.Ran a.queue) (record a { queue = [] })).answer) full);
      effect = ap (λ (b : Bool). (if b then answering answers.Absent a else answering (answers.Ran a.queue) (record a { queue = [] })).heap) full;
      stand = record { registered = stand.registered; queue = refl };
    }

-- ---- the same for what a World's view tells

pub finalize_in : (s : Inside) (w : View) → IsSound s → view_of s ≡ w → (t : ℕ) (c : Cell) (id word : ℕ) {o : Object} → RefersTo (heap_of w).objects (cell_value (heap_of w) t c) o →
    word ≡ word_of (heap_of w).objects (cell_value (heap_of w) t c) →
    IsFinalizerPlan (heap_of w) t (commands.Finalize c id) answers.Done (with_one_more w.parts.finalizers word id)
finalize_in s w h e t c id word {o} =
    subst (λ (z : View). RefersTo (heap_of z).objects (cell_value (heap_of z) t c) o → word ≡ word_of (heap_of z).objects (cell_value (heap_of z) t c) →
    IsFinalizerPlan (heap_of z) t (commands.Finalize c id) answers.Done (with_one_more z.parts.finalizers word id)) e
    (λ refers is. finalize_is (heap s) s.finalizers t c id refers.name word h.holds.finalizers refers.value_is is)

pub cancel_in : (s : Inside) (w : View) → IsSound s → view_of s ≡ w → (t : ℕ) (c : Cell) (word : ℕ) {o : Object} → RefersTo (heap_of w).objects (cell_value (heap_of w) t c) o →
    word ≡ word_of (heap_of w).objects (cell_value (heap_of w) t c) →
    IsFinalizerPlan (heap_of w) t (commands.Cancel c) (answers.Count (count_for w.parts.finalizers word)) (without w.parts.finalizers word)
cancel_in s w h e t c word {o} =
    subst (λ (z : View). RefersTo (heap_of z).objects (cell_value (heap_of z) t c) o → word ≡ word_of (heap_of z).objects (cell_value (heap_of z) t c) →
    IsFinalizerPlan (heap_of z) t (commands.Cancel c) (answers.Count (count_for z.parts.finalizers word)) (without z.parts.finalizers word)) e
    (λ refers is. cancel_is s h t c refers.name word (rw refers.there refl) refers.value_is is)

pub run_none_in : (s : Inside) (w : View) → IsSound s → view_of s ≡ w → (t : ℕ) → length s.finalizers.queue ≡ 0 → IsPlan (heap_of w) t commands.RunFinalizers answers.Absent changes.Nothing
run_none_in s w h e t none =
    subst (λ (z : View). IsPlan (heap_of z) t commands.RunFinalizers answers.Absent changes.Nothing) e
    (run_none (heap s) t (ap length (sym h.holds.finalizers.queue) ∙ none))

pub run_in : (s : Inside) (w : View) → IsSound s → view_of s ≡ w → (t : ℕ) → length s.finalizers.queue ≢ 0 →
    IsFinalizerPlan (heap_of w) t commands.RunFinalizers (answers.Ran w.parts.finalizers.queue) (without_queue w.parts.finalizers)
run_in s w h e t some =
    subst (λ (z : View). IsFinalizerPlan (heap_of z) t commands.RunFinalizers (answers.Ran z.parts.finalizers.queue) (without_queue z.parts.finalizers)) e
    (run_is (heap s) s.finalizers t h.holds.finalizers (λ none. some (ap length h.holds.finalizers.queue ∙ none)))
