-- Names, places and moves: distinct names have distinct places, so a list of moves may be read by index or by name.
use Rattle.std.proofs.Common.{◌≡◌, ◌≢◌, ℕ, List, [], ◌∷◌, ◌++◌, map, length, Option, Some, None, true, false, inl, inr, refl, sym, ◌∙◌, ap, subst, arith}
use Rattle.std.proofs.lemmas.Bool.{cases_eq, cases_Bool, eq-eqb, ne_eqb, false≢true}
use Rattle.std.proofs.lemmas.List.{get_or_past}
use Rattle.std.proofs.lemmas.Option.{same_Some}
use Rattle.std.proofs.lemmas.List.Elements.{All-head, All-tail}
use Rattle.std.specs.Prelude.{All, ◌==◌, if◌then◌else◌, unwrap_or}
use Rattle.heap_terms.specs.declared.events.Placing.{Placing}
use Rattle.heap_terms.specs.Heap.{NamedHeap, object_at}
use Rattle.heap_terms.specs.Objects.{Object}
use Rattle.heap_terms.specs.Passes.{moved_to}
use Rattle.heap_terms.specs.Sound.{IsSound}
use Rattle.pass_laws.specs.Spread.{settled}
use Rattle.pass_laws.proofs.Lookups.{made_at}
use Rattle.pass_laws.proofs.Sizes.{words_least}
use Rattle.pass_laws.proofs.Spreading.{is_in, IsMoveOf}
use Rattle.copy_space.specs.declared.notes.Move.{Move}
use Rattle.copy_space.specs.Moved.{new_of, has_move, now_at, objects_now, noted}

-- two objects at one place are one
pub same_name : (a : NamedHeap) → IsSound a → (x y : ℕ) (o q : Object) → object_at a.objects x ≡ Some o → object_at a.objects y ≡ Some q →
    o.place ≡ q.place → x ≡ y
same_name a sound x y o q e f same = elim (cases_eq x y) [
  | inl is ↦ is
  | inr not ↦ (let m = words_least o in let n = words_least q in
      elim (sound.apart x y o q not e f) [ inl l ↦ absurd (omega arith) | inr l ↦ absurd (omega arith) ])
]

-- objects at their places now, by name
pub now-at-name : (a : NamedHeap) (moves : List Move) (x : ℕ) → object_at (objects_now a moves) x ≡ now_at moves (object_at a.objects x)
now-at-name a moves x = made_at (λ name. now_at moves (object_at a.objects name)) (length a.objects) x None (λ past. ap (now_at moves) (get_or_past a.objects x None past))

pub now-there : (a : NamedHeap) (moves : List Move) (x : ℕ) (o : Object) → object_at a.objects x ≡ Some o →
    object_at (objects_now a moves) x ≡ Some (record o { place = new_of moves o.place })
now-there a moves x o e = now-at-name a moves x ∙ ap (now_at moves) e

-- and back
pub record WasBefore (a : NamedHeap) (moves : List Move) (x : ℕ) (q : Object) : Type 0 where
  pub o : Object
  pub there : object_at a.objects x ≡ Some o
  pub is : q ≡ record o { place = new_of moves o.place }

pub was-before : (a : NamedHeap) (moves : List Move) (x : ℕ) (q : Object) → object_at (objects_now a moves) x ≡ Some q → WasBefore a moves x q
was-before a moves x q e = go (object_at a.objects x) refl
  where
    go : (r : Option Object) → object_at a.objects x ≡ r → WasBefore a moves x q
    go None f = (let never : None ≡ Some q = sym (now-at-name a moves x ∙ ap (now_at moves) f) ∙ e in cc)
    go (Some o) f = record { o = o; there = f; is = same_Some q (record o { place = new_of moves o.place }) (sym e ∙ now-there a moves x o f) }

-- what the moves in indices say of the object of a name
pub record SaysOf (ms : List Placing) (x : ℕ) (o : Object) : Type 0 where
  pub new : new_of (map noted ms) o.place ≡ unwrap_or (moved_to ms x) o.place
  pub has : has_move (map noted ms) o.place ≡ is_in ms x

pub says : (a : NamedHeap) → IsSound a → (ms : List Placing) → All (IsMoveOf a) ms → (x : ℕ) (o : Object) → object_at a.objects x ≡ Some o → SaysOf ms x o
says a sound [] all x o e = record { new = refl; has = refl }
says a sound (m ∷ ms) all x o e =
    let move = All-head (IsMoveOf a) m ms all in
    let rest = says a sound ms (All-tail (IsMoveOf a) m ms all) x o e in
    elim (cases_eq m.name x) [
      | inl is ↦ (let there : object_at a.objects x ≡ Some move.0 = subst (λ (y : ℕ). object_at a.objects y ≡ Some move.0) is move.1 in
          let same : o ≡ move.0 = same_Some o move.0 (sym e ∙ there) in
          let old : m.old ≡ o.place = move.2 ∙ ap (λ (q : Object). q.place) (sym same) in
          let yes : (m.old == o.place) ≡ true = eq-eqb m.old o.place old in
          let named : (m.name == x) ≡ true = eq-eqb m.name x is in
          record { new = rw (yes, named) (ap (λ (d : ℕ). unwrap_or m.new d) old); has = rw (yes, named) refl })
      | inr not ↦ (let apart : m.old ≡ o.place → ⊥ = λ same. not (same_name a sound m.name x move.0 o move.1 e (sym move.2 ∙ same)) in
          let no : (m.old == o.place) ≡ false = ne_eqb m.old o.place apart in
          let unnamed : (m.name == x) ≡ false = ne_eqb m.name x not in
          record { new = rw (no, unnamed) rest.new; has = rw (no, unnamed) rest.has })
    ]

-- an object at its place so far is at its place now
pub settled-place : (to : Option ℕ) (o : Object) → (settled to o).place ≡ unwrap_or to o.place
settled-place None o = refl
settled-place (Some index) o = refl

-- one more move
pub new_of-more : (moves : List Move) (m : Move) (index : ℕ) → new_of (moves ++ m ∷ []) index ≡ (if has_move moves index then new_of moves index else (if m.old == index then m.new else index))
new_of-more [] m index = refl
new_of-more (k ∷ rest) m index = elim (cases_Bool (k.old == index)) [
  | inl hit ↦ rw hit refl
  | inr miss ↦ rw miss (new_of-more rest m index)
]

pub has_move-more : (moves : List Move) (m : Move) (index : ℕ) → has_move moves index ≡ false → has_move (moves ++ m ∷ []) index ≡ (m.old == index)
has_move-more [] m index none = elim (cases_Bool (m.old == index)) [ inl hit ↦ rw hit refl | inr miss ↦ rw miss refl ]
has_move-more (k ∷ rest) m index none = elim (cases_Bool (k.old == index)) [
  | inl hit ↦ absurd (false≢true (sym none ∙ rw hit refl))
  | inr miss ↦ rw miss (has_move-more rest m index (rw miss at none))
]

pub has_move-kept : (moves : List Move) (m : Move) (index : ℕ) → has_move moves index ≡ true → has_move (moves ++ m ∷ []) index ≡ true
has_move-kept [] m index has = absurd (false≢true has)
has_move-kept (k ∷ rest) m index has = elim (cases_Bool (k.old == index)) [
  | inl hit ↦ rw hit refl
  | inr miss ↦ rw miss (has_move-kept rest m index (rw miss at has))
]

pub new_of-none : (moves : List Move) (index : ℕ) → has_move moves index ≡ false → new_of moves index ≡ index
new_of-none [] index none = refl
new_of-none (k ∷ rest) index none = elim (cases_Bool (k.old == index)) [
  | inl hit ↦ absurd (false≢true (sym none ∙ rw hit refl))
  | inr miss ↦ rw miss (new_of-none rest index (rw miss at none))
]

-- a move of an index that had none: that index is now the new one, and all others are as they were
pub new_of-at : (moves : List Move) (old new : ℕ) → has_move moves old ≡ false → new_of (moves ++ record { old = old; new = new } ∷ []) old ≡ new
new_of-at moves old new none = new_of-more moves (record { old = old; new = new }) old ∙ (let same : (old == old) ≡ true = eq-eqb old old refl in rw (none, same) refl)

pub new_of-other : (moves : List Move) (old new index : ℕ) → index ≢ old → new_of (moves ++ record { old = old; new = new } ∷ []) index ≡ new_of moves index
new_of-other moves old new index apart = new_of-more moves (record { old = old; new = new }) index ∙ (elim (cases_Bool (has_move moves index)) [
  | inl has ↦ rw has refl
  | inr none ↦ (let other : (old == index) ≡ false = ne_eqb old index (λ e. apart (sym e)) in rw (none, other) (sym (new_of-none moves index none)))
])

pub has_move-at : (moves : List Move) (old new : ℕ) → has_move moves old ≡ false → has_move (moves ++ record { old = old; new = new } ∷ []) old ≡ true
has_move-at moves old new none = has_move-more moves (record { old = old; new = new }) old none ∙ eq-eqb old old refl

pub has_move-other : (moves : List Move) (old new index : ℕ) → index ≢ old → has_move (moves ++ record { old = old; new = new } ∷ []) index ≡ has_move moves index
has_move-other moves old new index apart = elim (cases_Bool (has_move moves index)) [
  | inl has ↦ has_move-kept moves (record { old = old; new = new }) index has ∙ sym has
  | inr none ↦ has_move-more moves (record { old = old; new = new }) index none ∙ ne_eqb old index (λ e. apart (sym e)) ∙ sym none
]
