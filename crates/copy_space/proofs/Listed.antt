-- The moves of a state midway: each is of an object of the pass's generation, which is settled and lies where the move says.
-- Equal numbers of moves mean that the same is settled, and pins and moves tell all marks.
use Rattle.std.proofs.Common.{◌≡◌, ◌≢◌, ℕ, zero, suc, ◌%◌, ◌<◌, List, [], ◌∷◌, ◌++◌, map, length, get_or, Option, Some, None, true, false, nat_eq, inl, inr, refl, sym, ◌∙◌, ap, subst, arith}
use Rattle.std.proofs.lemmas.Bool.{cases_Bool, eq-eqb, ne_eqb, or_right}
use Rattle.std.proofs.lemmas.List.{get_or-map, length-append, append-nil}
use Rattle.std.proofs.lemmas.List.Elements.{All-weaker}
use Rattle.std.proofs.lemmas.List.Folds.{list_any_at}
use Rattle.std.specs.List.{list_any}
use Rattle.std.specs.Prelude.{not, ◌||◌, ◌==◌, unwrap_or}
use Rattle.heap_terms.specs.declared.events.Placing.{Placing}
use Rattle.heap_terms.specs.Heap.{NamedHeap, object_at}
use Rattle.heap_terms.specs.Objects.{Object}
use Rattle.heap_terms.specs.Passes.{moved_to}
use Rattle.pass_laws.proofs.PassExists.{placement-names}
use Rattle.pass_laws.proofs.Sizes.{words_least}
use Rattle.pass_laws.proofs.Spreading.{is_in}
use Rattle.copy_space.specs.declared.marks.Mark.{Mark}
use Rattle.copy_space.specs.declared.notes.Move.{Move}
use Rattle.copy_space.specs.Clearing.{IsDoubleWord, AreMarks}
use Rattle.copy_space.specs.Frames.{Grows}
use Rattle.copy_space.specs.Marks.{mark_at, is_set}
use Rattle.copy_space.specs.Midway.{IsPlacedSoFar, HasStart}
use Rattle.copy_space.specs.Moved.{new_of, has_move, mark_for, noted}
use Rattle.copy_space.specs.Settled.{is_settled}
use Rattle.copy_space.specs.State.{CopyState}
use Rattle.copy_space.proofs.Names.{settled-place}
use Rattle.copy_space.proofs.Places.{said, placed_before}
use Rattle.copy_space.proofs.Referents.{ms, its, mark_is, met_of, of-generation, there-of, settles-not}

-- the object of a move
pub record IsMoveNow (a : NamedHeap) (s : CopyState) (m : Move) : Type 0 where
  pub name : ℕ
  pub o : Object
  pub there : object_at a.objects name ≡ Some o
  pub of_it : o.generation ≡ s.pass.generation
  pub old : o.place ≡ m.old
  pub new : new_of s.moves o.place ≡ m.new
  pub is_settled : is_settled a s name ≡ true

no_move : Placing
no_move = record { name = 0; old = 0; new = None }

first-hit : (xs : List Placing) (k : ℕ) (d : Placing) → k < length xs → ((i j : ℕ) → i < j → j < length xs → (get_or xs i d).name ≢ (get_or xs j d).name) →
    moved_to xs (get_or xs k d).name ≡ (get_or xs k d).new
first-hit [] k d l apart = absurd (omega (arith, l))
first-hit (m ∷ rest) zero d l apart = (let same : (m.name == m.name) ≡ true = eq-eqb m.name m.name refl in rw same refl)
first-hit (m ∷ rest) (suc k) d l apart =
    let other : (m.name == (get_or rest k d).name) ≡ false = ne_eqb m.name (get_or rest k d).name (apart 0 (suc k) (omega arith) l) in
    rw other (first-hit rest k d (omega arith) (λ i j m n. apart (suc i) (suc j) (omega arith) (omega arith)))

set-when-moved : (pins : List ℕ) (moves : List Move) (index : ℕ) → has_move moves index ≡ true → is_set (mark_for pins moves index) ≡ true
set-when-moved pins moves index has = elim (cases_Bool (list_any (nat_eq index) pins)) [
  | inl pin ↦ rw pin refl
  | inr free ↦ elim (cases_Bool (new_of moves index == index)) [ inl stay ↦ rw (free, has, stay) refl | inr gone ↦ rw (free, has, gone) refl ]
]

module _ (a : NamedHeap) (s : CopyState) (h : IsPlacedSoFar a s) where
  names_are : map (λ (m : Placing). m.name) (ms a s h) ≡ h.order
  names_are = placement-names a h.order (λ i l. there-of a s.pass.generation (get_or h.order i 0) (h.met i 0 l))

  name-at : (k : ℕ) → k < length (ms a s h) → (get_or (ms a s h) k no_move).name ≡ get_or h.order k 0
  name-at k l = sym (get_or-map (λ (m : Placing). m.name) (ms a s h) k no_move 0 l) ∙ ap (λ (xs : List ℕ). get_or xs k 0) names_are

  length-names : (xs : List Placing) → length (map (λ (m : Placing). m.name) xs) ≡ length xs
  length-names [] = refl
  length-names (y ∷ ys) = omega (arith, length-names ys)

  length-noted : (xs : List Placing) → length (map noted xs) ≡ length xs
  length-noted [] = refl
  length-noted (y ∷ ys) = omega (arith, length-noted ys)

  names_apart : (i j : ℕ) → i < j → j < length (ms a s h) → (get_or (ms a s h) i no_move).name ≢ (get_or (ms a s h) j no_move).name
  names_apart i j l m same =
      let long : length (map (λ (m : Placing). m.name) (ms a s h)) ≡ length h.order = ap length names_are in
      let names_long = length-names (ms a s h) in
      h.once i j 0 l (omega arith) (sym (name-at i (omega arith)) ∙ same ∙ name-at j m)

  pub move-is : (k : ℕ) (d : Move) → k < length s.moves → IsMoveNow a s (get_or s.moves k d)
  move-is k d l = subst (λ (m : Move). IsMoveNow a s m) (sym at) found
    where
      inside : k < length (ms a s h)
      inside = (let long = ap length (its a s h).moves_are in let noted_long = length-noted (ms a s h) in omega arith)

      m : Placing
      m = get_or (ms a s h) k no_move

      at : get_or s.moves k d ≡ noted (get_or (ms a s h) k no_move)
      at = ap (λ (xs : List Move). get_or xs k d) (its a s h).moves_are ∙ get_or-map noted (ms a s h) k no_move d inside

      found : IsMoveNow a s (noted (get_or (ms a s h) k no_move))
      found =
          let move = (its a s h).placing.olds k no_move inside in
          let o = move.0 in
          let there = move.1 in
          let both = said a s (ms a s h) h.sound (its a s h) (get_or (ms a s h) k no_move).name o there in
          let in_it : is_in (ms a s h) (get_or (ms a s h) k no_move).name ≡ true =
          list_any_at (λ (n : Placing). n.name == (get_or (ms a s h) k no_move).name) (ms a s h) k no_move inside (eq-eqb (get_or (ms a s h) k no_move).name (get_or (ms a s h) k no_move).name refl) in
          let hit = first-hit (ms a s h) k no_move inside names_apart in
          let set : is_set (mark_at s.marks o.place) ≡ true = ap is_set (mark_is a s h (get_or (ms a s h) k no_move).name o there) ∙ set-when-moved s.pins s.moves o.place (both.1 ∙ in_it) in
          record {
            name = (get_or (ms a s h) k no_move).name;
            o = o;
            there = there;
            of_it = of-generation a s.pass.generation (get_or (ms a s h) k no_move).name o there (met_of a s h (get_or (ms a s h) k no_move).name in_it);
            old = sym move.2;
            new = both.0 ∙ settled-place (moved_to (ms a s h) (get_or (ms a s h) k no_move).name) o ∙ ap (λ (t : Option ℕ). unwrap_or t o.place) hit
                ∙ ap (λ (p : ℕ). unwrap_or (get_or (ms a s h) k no_move).new p) (sym move.2);
            is_settled = settles-not a s h (get_or (ms a s h) k no_move).name o there ∙ or_right (not (o.generation == s.pass.generation)) _ set;
          }

  -- the marks are those of pins and moves
  pub marks-told : AreMarks s.marks s.pins s.moves
  marks-told = record {
    pins_inside = All-weaker (HasStart a s.pass.generation) (IsDoubleWord (length s.marks)) pin_inside s.pins h.pins;
    moves_inside = λ k d l. (let move = move-is k d l in double move.name move.o (get_or s.moves k d).old move.there move.old);
    marks_are = h.marks;
  }
    where
      double : (name : ℕ) (o : Object) (index : ℕ) → object_at a.objects name ≡ Some o → o.place ≡ index → IsDoubleWord (length s.marks) index
      double name o index there here =
          let placed = placed_before a s (ms a s h) h.sound (its a s h) name o there in
          let even = placed.even in
          let inside = placed.inside in
          let least = words_least o in
          let long = h.long in
          let marks_long = h.marks_long in
          record { even = ap (λ (i : ℕ). i % 2) (sym here) ∙ even; inside = omega arith }

      pin_inside : (index : ℕ) → HasStart a s.pass.generation index → IsDoubleWord (length s.marks) index
      pin_inside index (name, start) = double name start.o index start.there start.here

-- where no move was added, the same names are settled
pub same-settled : (a : NamedHeap) (s t : CopyState) → IsPlacedSoFar a s → IsPlacedSoFar a t → Grows a s t → length t.moves ≡ length s.moves → (name : ℕ) →
    is_settled a t name ≡ is_settled a s name
same-settled a s t h k g long name = go (object_at a.objects name) refl
  where
    none_more : (xs : List Move) → length (s.moves ++ xs) ≡ length s.moves → xs ≡ []
    none_more [] e = refl
    none_more (x ∷ xs) e = absurd (omega (arith, e, length-append s.moves (x ∷ xs)))

    moves_same : t.moves ≡ s.moves
    moves_same = g.moves ∙ ap (λ (xs : List Move). s.moves ++ xs) (none_more g.more (sym (ap length g.moves) ∙ long)) ∙ append-nil s.moves

    go : (q : Option Object) → object_at a.objects name ≡ q → is_settled a t name ≡ is_settled a s name
    go None e = rw e refl
    go (Some o) e =
        let mark_same : mark_at t.marks o.place ≡ mark_at s.marks o.place =
        mark_is a t k name o e ∙ ap (λ (ps : List ℕ). mark_for ps t.moves o.place) g.pins ∙ ap (λ (xs : List Move). mark_for s.pins xs o.place) moves_same ∙ sym (mark_is a s h name o e) in
        settles-not a t k name o e ∙ ap (λ (g : ℕ). not (o.generation == g) || is_set (mark_at t.marks o.place)) (ap (λ p. p.generation) g.pass)
        ∙ ap (λ (m : Mark). not (o.generation == s.pass.generation) || is_set m) mark_same ∙ sym (settles-not a s h name o e)
