-- On which pages objects begin: on the first page of a run of their generation.
use Rattle.std.proofs.Common.{◌≡◌, ℕ, ◌+◌, ◌*◌, ◌/◌, ◌≤◌, List, length, Some, true, false, inl, inr, sym, ◌∙◌, subst, ap, arith}
use Rattle.std.proofs.lemmas.Bool.{cases_Bool, and_parts, and_from, eq-eqb, eqb-true, leb-false, false≢true}
use Rattle.std.specs.Prelude.{◌==◌}
use Rattle.heap_terms.specs.declared.pages.Entry.{Entry}
use Rattle.heap_terms.specs.declared.pages.Entry.TheVariants.{Free, Used}
use Rattle.heap_terms.specs.Generations.{is_of, has_generation}
use Rattle.heap_terms.specs.Heap.{NamedHeap, object_at, entry_at}
use Rattle.heap_terms.specs.Objects.{Object, words_of_object}
use Rattle.heap_terms.specs.OnPages.{IsPlaced, IsOnPage, IsPageOfRun}
use Rattle.heap_terms.specs.Regions.{is_small, pages_needed}
use Rattle.heap_terms.specs.Sound.{IsSound}
use Rattle.object_walk.proofs.Places.{words_least}
use Rattle.ambiguous_roots.specs.Pinning.{is_walked}

-- the entry of the page on which an object begins
abbrev BeginsOn : Object → Entry → Type 0
BeginsOn o Free = ⊥
BeginsOn o (Used ty g fill first pages) = (g ≡ o.generation) × (first ≡ o.place / 512)

on_page : (o : Object) (e : Entry) → IsOnPage o e → BeginsOn o e
on_page o Free h = h
on_page o (Used ty g fill first pages) h = (h.1, h.2)

of_run : (o : Object) (i : ℕ) (e : Entry) → IsPageOfRun o i e → BeginsOn o e
of_run o i Free h = h
of_run o i (Used ty g fill first pages) h = (h.1, h.2)

needs_least : (size : ℕ) → 1 ≤ pages_needed size
needs_least size = elim (cases_Bool (is_small size)) [
  | inl small ↦ rw small (omega arith)
  | inr large ↦ (let least = leb-false size 512 large in rw large (omega arith))
]

begins_on : (pages : List Entry) (o : Object) → IsPlaced pages o → BeginsOn o (entry_at pages (o.place / 512))
begins_on pages o h = elim (cases_Bool (is_small (words_of_object o))) [
  | inl small ↦ on_page o (entry_at pages (o.place / 512)) (h.small small)
  | inr large ↦ (let least = needs_least (words_of_object o) in
      let at : o.place / 512 + 0 ≡ o.place / 512 = omega arith in
      of_run o 0 (entry_at pages (o.place / 512)) (subst (λ (p : ℕ). IsPageOfRun o 0 (entry_at pages p)) at (h.large large 0 (omega arith))))
]

-- a page that is walked has objects of the generation alone
walked_one : (o : Object) (e : Entry) (page g : ℕ) → BeginsOn o e → is_walked e page g ≡ true → o.generation ≡ g
walked_one o Free page g h w = absurd h
walked_one o (Used ty k fill first pages) page g h w = sym h.0 ∙ eqb-true k g (and_parts (k == g) (first == page) w).0

pub walked_of : (a : NamedHeap) (page g name : ℕ) (o : Object) → IsSound a → object_at a.objects name ≡ Some o → o.place / 512 ≡ page → is_walked (entry_at a.pages page) page g ≡ true →
    o.generation ≡ g
walked_of a page g name o sound e at w =
    walked_one o (entry_at a.pages page) page g (subst (λ (p : ℕ). BeginsOn o (entry_at a.pages p)) at (begins_on a.pages o (sound.objects name o e).placed)) w

-- and each object of the generation begins on such a page
walked_there : (o : Object) (e : Entry) (page : ℕ) → BeginsOn o e → o.place / 512 ≡ page → is_walked e page o.generation ≡ true
walked_there o Free page h at = absurd h
walked_there o (Used ty k fill first pages) page h at = and_from (k == o.generation) (first == page) (eq-eqb k o.generation h.0) (eq-eqb first page (h.1 ∙ at))

pub unwalked_none : (a : NamedHeap) (page g name : ℕ) (o : Object) → IsSound a → object_at a.objects name ≡ Some o → o.place / 512 ≡ page → is_walked (entry_at a.pages page) page g ≡ false →
    o.generation ≡ g → ⊥
unwalked_none a page g name o sound e at w of_it =
    false≢true (sym w ∙ ap (λ (h : ℕ). is_walked (entry_at a.pages page) page h) (sym of_it)
    ∙ walked_there o (entry_at a.pages page) page (subst (λ (p : ℕ). BeginsOn o (entry_at a.pages p)) at (begins_on a.pages o (sound.objects name o e).placed)) at)

-- the generation of a name
pub of_name : (a : NamedHeap) (g name : ℕ) (o : Object) → object_at a.objects name ≡ Some o → o.generation ≡ g → is_of a g name ≡ true
of_name a g name o e of_it = ap (has_generation g) e ∙ eq-eqb o.generation g of_it

pub name_of : (a : NamedHeap) (g name : ℕ) (o : Object) → object_at a.objects name ≡ Some o → is_of a g name ≡ true → o.generation ≡ g
name_of a g name o e of_it = eqb-true o.generation g (ap (has_generation g) (sym e) ∙ of_it)

-- an object lies inside the heap
pub place_inside : (a : NamedHeap) (name : ℕ) (o : Object) → IsSound a → object_at a.objects name ≡ Some o → o.place + 2 ≤ 512 * length a.pages
place_inside a name o sound e =
    let inside = (sound.objects name o e).placed.inside in
    let least = words_least o in
    omega arith
