-- The flags of the pages that a pass holds, set and cleared.
use Rattle.std.proofs.Common.{◌≡◌, ℕ, ◌/◌, ◌<◌, List, length, get_or, replicate, Some, Bool, true, false, inl, inr, refl, sym, ◌∙◌, arith}
use Rattle.std.proofs.lemmas.Bool.{cases_lt, cases_Bool}
use Rattle.std.proofs.lemmas.List.{get_or-replicate, get_or_past, length-replicate, get_or_default, same_lists}
use Rattle.std.specs.Prelude.{All, if◌then◌else◌}
use Rattle.heap_terms.specs.Heap.{NamedHeap, object_at}
use Rattle.heap_terms.specs.Objects.{Object}
use Rattle.pass_laws.proofs.Sizes.{words_least}
use Rattle.copy_space.specs.declared.notes.Move.{Move}
use Rattle.copy_space.specs.Midway.{IsPlacedSoFar}
use Rattle.copy_space.specs.State.{CopyState}
use Rattle.copy_space.proofs.Listed.{move-is}
use Rattle.copy_space.proofs.Places.{placed_before, page-count}
use Rattle.copy_space.proofs.Referents.{ms, its}
use Rattle.page_sweep.specs.Flags.{held_at, is_pinned_on, is_stay_on}
use Rattle.page_sweep.specs.Held.{is_held}

module _ (a : NamedHeap) (s : CopyState) (h : IsPlacedSoFar a s) where
  inside : (x : ℕ) (o : Object) (index : ℕ) → object_at a.objects x ≡ Some o → o.place ≡ index → index / 512 < length s.pages
  inside x o index e at =
      let placed = (placed_before a s (ms a s h) h.sound (its a s h) x o e).inside in
      let least = words_least o in
      let count = page-count a s h in
      omega arith

  -- pins and stays lie inside
  pub pins-inside : (n : ℕ) → n ≡ length s.pages → All (λ (index : ℕ). index / 512 < n) s.pins
  pins-inside n long = λ k d l. (let start = h.pins k d l in let it = inside start.0 start.1.o (get_or s.pins k d) start.1.there start.1.here in omega arith)

  pub stays-inside : (n : ℕ) → n ≡ length s.pages → All (λ (m : Move). m.old / 512 < n) s.moves
  stays-inside n long = λ k d l. (let move = move-is a s h k d l in let it = inside move.name move.o (get_or s.moves k d).old move.there move.old in omega arith)

clear_at : (n page : ℕ) → held_at (replicate n false) page ≡ false
clear_at n page = elim (cases_lt page n) [
  | inl l ↦ get_or-replicate n page false false l
  | inr past ↦ get_or_past (replicate n false) page false (let long = length-replicate n false in omega arith)
]

-- flags that were clear and then set are those of the pages that are held
pub all-set : (pins : List ℕ) (moves : List Move) (n : ℕ) (first second : List Bool) →
    ((page : ℕ) → held_at first page ≡ (if is_pinned_on pins page then true else held_at (replicate n false) page)) →
    ((page : ℕ) → held_at second page ≡ (if is_stay_on moves page then true else held_at first page)) →
    (page : ℕ) → held_at second page ≡ is_held pins moves page
all-set pins moves n first second one two page = two page ∙ (elim (cases_Bool (is_pinned_on pins page)) [
  | inl pin ↦ elim (cases_Bool (is_stay_on moves page)) [
    | inl stay ↦ rw (stay, pin) refl
    | inr none ↦ rw (none, pin) (one page ∙ (rw pin refl))
  ]
  | inr free ↦ elim (cases_Bool (is_stay_on moves page)) [
    | inl stay ↦ rw (stay, free) refl
    | inr none ↦ rw (none, free) (one page ∙ (rw free (clear_at n page)))
  ]
])

-- and those that are cleared again are all clear
pub all-clear : (pins : List ℕ) (moves : List Move) (n : ℕ) (second third fourth : List Bool) →
    ((page : ℕ) → held_at second page ≡ is_held pins moves page) →
    ((page : ℕ) → held_at third page ≡ (if is_pinned_on pins page then false else held_at second page)) →
    ((page : ℕ) → held_at fourth page ≡ (if is_stay_on moves page then false else held_at third page)) →
    length fourth ≡ n → fourth ≡ replicate n false
all-clear pins moves n second third fourth set one two long =
    same_lists fourth (replicate n false) (long ∙ sym (length-replicate n false))
    (λ k d l. get_or_default fourth k d false l ∙ clear k ∙ sym (get_or-replicate n k false d (omega arith)))
  where
    clear : (page : ℕ) → held_at fourth page ≡ false
    clear page = two page ∙ (elim (cases_Bool (is_stay_on moves page)) [
      | inl stay ↦ rw stay refl
      | inr none ↦ rw none (one page ∙ (elim (cases_Bool (is_pinned_on pins page)) [
        | inl pin ↦ rw pin refl
        | inr free ↦ rw free (set page ∙ (rw (free, none) refl))
      ]))
    ])
