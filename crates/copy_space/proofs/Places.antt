-- Where objects are midway: what the laws of placements say of the places now, and that places before the pass and pages
-- that were taken have no word in common.
use Rattle.std.proofs.Common.{◌≡◌, ◌≢◌, ℕ, ◌+◌, ◌-◌, ◌*◌, ◌/◌, ◌%◌, ◌<◌, ◌≤◌, List, map, length, Option, Some, None, true, ◌⊎◌, inl, inr, sym, ◌∙◌, ap, subst, arith}
use Rattle.std.proofs.lemmas.Bool.{cases_Bool, eq-eqb, eqb-true, false≢true}
use Rattle.std.specs.Prelude.{AllPairs, unwrap_or}
use Rattle.heap_terms.specs.declared.events.Placing.{Placing}
use Rattle.heap_terms.specs.declared.pages.Entry.{Entry}
use Rattle.heap_terms.specs.declared.pages.Entry.TheVariants.{Free, Used}
use Rattle.heap_terms.specs.Heap.{NamedHeap, object_at, entry_at, fill_of}
use Rattle.heap_terms.specs.Objects.{Object, words_of_object}
use Rattle.heap_terms.specs.OnPages.{IsPlaced, IsOnPage, IsPageOfRun, IsEntry}
use Rattle.heap_terms.specs.Passes.{moved_to}
use Rattle.heap_terms.specs.Placement.{Placement, scratch, placement}
use Rattle.heap_terms.specs.Regions.{is_small}
use Rattle.heap_terms.specs.Sound.{IsSound}
use Rattle.pass_laws.specs.Spread.{settled, moved_object}
use Rattle.pass_laws.proofs.Sizes.{large_least, large_needs, apart_without}
use Rattle.pass_laws.proofs.Spreading.{IsPlacing, is_in, placement-keeps, settled-words, fills_most}
use Rattle.copy_space.specs.declared.notes.Move.{Move}
use Rattle.copy_space.specs.Midway.{IsPlacement, IsPlacedSoFar}
use Rattle.copy_space.specs.Moved.{new_of, has_move, noted}
use Rattle.copy_space.specs.Pages.{is_page_of}
use Rattle.copy_space.specs.State.{CopyState, placing_on}
use Rattle.copy_space.proofs.Names.{says, settled-place}

on_page_of : (o : Object) (e : Entry) → IsOnPage o e → is_page_of e o.generation ≡ true
on_page_of o Free h = absurd h
on_page_of o (Used ty g fill first pages) h = eq-eqb g o.generation h.1

run_page_of : (o : Object) (i : ℕ) (e : Entry) → IsPageOfRun o i e → is_page_of e o.generation ≡ true
run_page_of o i Free h = absurd h
run_page_of o i (Used ty g fill first pages) h = eq-eqb g o.generation h.1

-- the pages of an object's words are of its generation
pub placed_page : (pages : List Entry) (o : Object) → ((page : ℕ) → fill_of (entry_at pages page) ≤ 512) → IsPlaced pages o → (i : ℕ) → o.place ≤ i → i < o.place + words_of_object o →
    is_page_of (entry_at pages (i / 512)) o.generation ≡ true
placed_page pages o most h i from below = elim (cases_Bool (is_small (words_of_object o))) [
  | inl small ↦ (let on = h.small small in
      let fits = on_page_end o (entry_at pages (o.place / 512)) on in
      let bound = most (o.place / 512) in
      let same : i / 512 ≡ o.place / 512 = omega arith in
      rw same (on_page_of o (entry_at pages (o.place / 512)) on))
  | inr large ↦ (let start = h.large_start large in
      let needs = large_needs (words_of_object o) large in
      let least = large_least (words_of_object o) large in
      let d = i - o.place in
      let j = d / 512 in
      let in_run : j < (words_of_object o + 511) / 512 = omega arith in
      let same : i / 512 ≡ o.place / 512 + j = omega arith in
      rw same (run_page_of o j (entry_at pages (o.place / 512 + j)) (h.large large j (rw needs in_run))))
]
  where
    on_page_end : (o : Object) (e : Entry) → IsOnPage o e → o.place % 512 + words_of_object o ≤ fill_of e
    on_page_end o Free h = absurd h
    on_page_end o (Used ty g fill first pages) h = h.4

-- what the placement so far says, over the state's own pages and moves
pub record Placed (a : NamedHeap) (s : CopyState) (ms : List Placing) : Type 0 where
  pub placing : IsPlacing a (record (placing_on s.pages s.in_use) { moves = ms })
  pub moves_are : s.moves ≡ map noted ms
  pub most : (page : ℕ) → fill_of (entry_at s.pages page) ≤ 512
  pub most_before : (page : ℕ) → fill_of (entry_at a.pages page) ≤ 512

entry_most : (e : Entry) → IsEntry e → fill_of e ≤ 512
entry_most Free h = omega arith
entry_most (Used ty g fill first pages) h = h.1.most

pub placed-from : (a : NamedHeap) (s : CopyState) (order : List ℕ) → IsSound a → AllPairs (λ (x y : ℕ). x ≢ y) order → IsPlacement a s order →
    Placed a s (placement a order).moves
placed-from a s order sound once h =
    let p = placement a order in
    let keeps : IsPlacing a p = placement-keeps a order sound (λ i j l m. once i j 0 l m) in
    let same : p ≡ record (placing_on s.pages s.in_use) { moves = p.moves } = ap (λ (q : Placement). record q { moves = p.moves }) (sym h.on_pages) in
    let placing : IsPlacing a (record (placing_on s.pages s.in_use) { moves = p.moves }) = subst (λ (q : Placement). IsPlacing a q) same keeps in
    record {
      placing = placing;
      moves_are = h.moves;
      most = fills_most a (record (placing_on s.pages s.in_use) { moves = p.moves }) sound.entries placing;
      most_before = λ page. entry_most (entry_at a.pages page) (sound.entries page);
    }

pub placed-so-far : (a : NamedHeap) (s : CopyState) (h : IsPlacedSoFar a s) → Placed a s (placement a h.order).moves
placed-so-far a s h = placed-from a s h.order h.sound h.once h.placed

module _ (a : NamedHeap) (s : CopyState) (ms : List Placing) (sound : IsSound a) (p : Placed a s ms) where
  -- an object at its place so far
  abbrev pub so_far : ℕ → Object → Object
  so_far x o = settled (moved_to ms x) o

  pub said : (x : ℕ) (o : Object) → object_at a.objects x ≡ Some o → (new_of s.moves o.place ≡ (so_far x o).place) × (has_move s.moves o.place ≡ is_in ms x)
  said x o e =
      let says_it = says a sound ms p.placing.olds x o e in
      (ap (λ (moves : List Move). new_of moves o.place) p.moves_are ∙ says_it.new ∙ sym (settled-place (moved_to ms x) o), ap (λ (moves : List Move). has_move moves o.place) p.moves_are ∙ says_it.has)

  pub placed_now : (x : ℕ) (o : Object) → object_at a.objects x ≡ Some o → IsPlaced s.pages (so_far x o)
  placed_now x o e = p.placing.spread.placed x o e

  pub placed_before : (x : ℕ) (o : Object) → object_at a.objects x ≡ Some o → IsPlaced a.pages o
  placed_before x o e = (sound.objects x o e).placed

  pub now_inside : (x : ℕ) (o : Object) → object_at a.objects x ≡ Some o → new_of s.moves o.place + words_of_object o ≤ 512 * length a.pages
  now_inside x o e =
      let inside = (placed_now x o e).inside in
      let same = (said x o e).0 in
      let size = settled-words (moved_to ms x) o in
      let long = p.placing.lengths in
      omega arith

  pub now_even : (x : ℕ) (o : Object) → object_at a.objects x ≡ Some o → new_of s.moves o.place % 2 ≡ 0
  now_even x o e = ap (λ (i : ℕ). i % 2) (said x o e).0 ∙ (placed_now x o e).even

  -- no two objects have a word in common at their places now
  pub now_apart : (x y : ℕ) (o q : Object) → x ≢ y → object_at a.objects x ≡ Some o → object_at a.objects y ≡ Some q →
      (new_of s.moves o.place + words_of_object o ≤ new_of s.moves q.place) ⊎ (new_of s.moves q.place + words_of_object q ≤ new_of s.moves o.place)
  now_apart x y o q apart e f =
      let o_is = (said x o e).0 in
      let q_is = (said y q f).0 in
      let o_size = settled-words (moved_to ms x) o in
      let q_size = settled-words (moved_to ms y) q in
      elim (p.placing.spread.apart x y o q apart e f) [ inl l ↦ inl (omega arith) | inr l ↦ inr (omega arith) ]

  -- what has not moved is where it was
  pub now_unmoved : (x : ℕ) (o : Object) → object_at a.objects x ≡ Some o → moved_to ms x ≡ None → new_of s.moves o.place ≡ o.place
  now_unmoved x o e none = (said x o e).0 ∙ settled-place (moved_to ms x) o ∙ ap (λ (to : Option ℕ). unwrap_or to o.place) none

  -- a page on which an object was before the pass is as it was
  pub page_kept : (x : ℕ) (o : Object) (i : ℕ) → object_at a.objects x ≡ Some o → o.place ≤ i → i < o.place + words_of_object o →
      (entry_at s.pages (i / 512) ≡ entry_at a.pages (i / 512)) × (is_page_of (entry_at a.pages (i / 512)) o.generation ≡ true)
  page_kept x o i e from below =
      let its = placed_page a.pages o p.most_before (placed_before x o e) i from below in
      elim (p.placing.fresh (i / 512)) [
        | inl same ↦ (same, its)
        | inr taken ↦ absurd (false≢true (ap (λ (t : Entry). is_page_of t o.generation) (sym taken.0) ∙ its))
      ]

  -- and has no word of an object that moved
  pub moved_away : (x y index : ℕ) (o q : Object) → object_at a.objects x ≡ Some o → object_at a.objects y ≡ Some q → moved_to ms x ≡ Some index →
      (new_of s.moves o.place + words_of_object o ≤ q.place) ⊎ (q.place + words_of_object q ≤ new_of s.moves o.place)
  moved_away x y index o q e f to =
      let here : new_of s.moves o.place ≡ index = (said x o e).0 ∙ ap (λ (t : Option ℕ). (settled t o).place) to in
      let placed : IsPlaced s.pages (moved_object o index) = subst (λ (t : Option ℕ). IsPlaced s.pages (settled t o)) to (placed_now x o e) in
      let bound = (sound.objects y q f).generation in
      let none : (i : ℕ) → index ≤ i → i < index + words_of_object o → q.place ≤ i → i < q.place + words_of_object q → ⊥ =
      λ i from below from' below'.
      (let mine = placed_page s.pages (moved_object o index) p.most placed i from below in
      let its = page_kept y q i f from' below' in
      let both : is_page_of (entry_at s.pages (i / 512)) q.generation ≡ true = ap (λ (t : Entry). is_page_of t q.generation) its.0 ∙ its.1 in
      two_generations (entry_at s.pages (i / 512)) scratch q.generation mine both (λ same. omega (arith, same, bound))) in
      elim (apart_without (moved_object o index) q none) [
        | inl l ↦ inl (omega (arith, l, here))
        | inr l ↦ inr (omega (arith, l, here))
      ]
    where
      two_generations : (t : Entry) (g h : ℕ) → is_page_of t g ≡ true → is_page_of t h ≡ true → (g ≡ h → ⊥) → ⊥
      two_generations Free g h e f apart = false≢true e
      two_generations (Used ty k fill first pages) g h e f apart = apart (sym (eqb-true k g e) ∙ eqb-true k h f)

-- the state has as many pages as the heap
pub page-count : (a : NamedHeap) (s : CopyState) → IsPlacedSoFar a s → length s.pages ≡ length a.pages
page-count a s h = (placed-so-far a s h).placing.lengths
