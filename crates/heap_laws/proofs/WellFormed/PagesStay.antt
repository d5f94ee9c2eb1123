-- What lies on pages stays where it may lie while pages are opened and filled, and while fields change.
use Rattle.std.proofs.Common.{◌≡◌, ◌≢◌, ℕ, ◌+◌, ◌*◌, ◌/◌, ◌%◌, ◌<◌, ◌≤◌, List, length, true, false, inl, inr, refl, sym, ◌∙◌, subst, arith}
use Rattle.std.proofs.lemmas.Bool.{cases_Bool, leb-true, leb-false}
use Rattle.heap_terms.specs.declared.kinds.Kind.{Kind}
use Rattle.heap_terms.specs.declared.kinds.Kind.TheVariants as kinds
use Rattle.heap_terms.specs.declared.kinds.PageType.{PageType}
use Rattle.heap_terms.specs.declared.pages.Entry.{Entry}
use Rattle.heap_terms.specs.declared.pages.Entry.TheVariants.{Free, Used}
use Rattle.heap_terms.specs.Heap.{entry_at}
use Rattle.heap_terms.specs.Layout.{page_words, size_of}
use Rattle.heap_terms.specs.Objects.{Object, kind_of, payload_of, words_of_object}
use Rattle.heap_terms.specs.Regions.{is_small, pages_needed}
use Rattle.heap_terms.specs.OnPages.{IsOnPage, IsPageOfRun, IsPlaced, AreApart, SaysOfRun, IsInRun}
use Rattle.heap_terms.specs.WellFormed.{IsOpenPage, IsOpenRunPage, IsOpenRun}

-- a size is an even number from 2 on
pub size_even : (kind : Kind) (n : ℕ) → size_of kind n % 2 ≡ 0
size_even kinds.Cons n = refl
size_even kinds.Vector n = omega arith
size_even kinds.Instance n = omega arith
size_even kinds.Closure n = omega arith
size_even kinds.Words n = omega arith
size_even kinds.Weak n = omega arith
size_even kinds.Table n = omega arith

pub size_least : (kind : Kind) (n : ℕ) → 2 ≤ size_of kind n
size_least kinds.Cons n = omega arith
size_least kinds.Vector n = omega arith
size_least kinds.Instance n = omega arith
size_least kinds.Closure n = omega arith
size_least kinds.Words n = omega arith
size_least kinds.Weak n = omega arith
size_least kinds.Table n = omega arith

pub small_most : (size : ℕ) → is_small size ≡ true → size ≤ page_words
small_most size e = leb-true size page_words e

pub large_least : (size : ℕ) → is_small size ≡ false → page_words < size
large_least size e = leb-false size page_words e

-- a small object needs one page, a large one two or more, which have room for it
pub small_needs : (size : ℕ) → is_small size ≡ true → pages_needed size ≡ 1
small_needs size e = rw e refl

pub large_needs : (size : ℕ) → is_small size ≡ false → pages_needed size ≡ (size + 511) / page_words
large_needs size e = rw e refl

pub needs_two : (size : ℕ) → is_small size ≡ false → 2 ≤ pages_needed size
needs_two size e = let most = large_least size e in rw (large_needs size e) (omega arith)

pub needs_enough : (size : ℕ) → is_small size ≡ false → size ≤ page_words * pages_needed size
needs_enough size e = rw (large_needs size e) (omega arith)

pub needs_least : (size : ℕ) → 1 ≤ pages_needed size
needs_least size = elim (cases_Bool (is_small size)) [
  | inl e ↦ omega (arith, small_needs size e)
  | inr e ↦ omega (arith, needs_two size e)
]

-- An entry stays while its page is filled further: a used page stays one of its type, its generation and its
-- run, its fill does not fall, and it does not change on a page of a run of two or more.
abbrev pub EntryStays : Entry → Entry → Type 0
EntryStays Free new = Unit {0}
EntryStays (Used ty g fill first n) Free = ⊥
EntryStays (Used ty g fill first n) (Used ty' g' fill' first' n') =
    (ty' ≡ ty) × (g' ≡ g) × (first' ≡ first) × (n' ≡ n) × (fill ≤ fill') × (n ≢ 1 → fill' ≡ fill)

pub EntryStays-same : (e : Entry) → EntryStays e e
EntryStays-same Free = tt
EntryStays-same (Used ty g fill first n) = (refl, refl, refl, refl, omega arith, λ h. refl)

pub IsOnPage-stays : (o : Object) (old new : Entry) → EntryStays old new → IsOnPage o old → IsOnPage o new
IsOnPage-stays o Free new s h = absurd h
IsOnPage-stays o (Used ty g fill first n) Free s h = absurd s
IsOnPage-stays o (Used ty g fill first n) (Used ty' g' fill' first' n') s h =
    (s.0 ∙ h.0, s.1 ∙ h.1, s.2 ∙ h.2, s.3 ∙ h.3, omega (arith, s.4, h.4))

pub IsPageOfRun-stays : (o : Object) (i : ℕ) (old new : Entry) → EntryStays old new → pages_needed (words_of_object o) ≢ 1 →
    IsPageOfRun o i old → IsPageOfRun o i new
IsPageOfRun-stays o i Free new s long h = absurd h
IsPageOfRun-stays o i (Used ty g fill first n) Free s long h = absurd s
IsPageOfRun-stays o i (Used ty g fill first n) (Used ty' g' fill' first' n') s long h =
    let same : fill' ≡ fill = s.5 (λ one. long (sym h.3 ∙ one)) in (
      s.0 ∙ h.0,
      s.1 ∙ h.1,
      s.2 ∙ h.2,
      s.3 ∙ h.3,
      (λ l. same ∙ h.4 (rw (← s.3) l)),
      (λ l. rw same (h.5 (l ∙ s.3))),
    )

pub IsOpenPage-stays : (ty : PageType) (page : ℕ) (old new : Entry) → EntryStays old new → IsOpenPage ty page old → IsOpenPage ty page new
IsOpenPage-stays ty page Free new s h = absurd h
IsOpenPage-stays ty page (Used ty' g fill first n) Free s h = absurd s
IsOpenPage-stays ty page (Used ty' g fill first n) (Used ty'' g' fill' first' n') s h = (s.0 ∙ h.0, s.1 ∙ h.1, s.2 ∙ h.2, s.3 ∙ h.3)

pub IsOpenRunPage-stays : (ty : PageType) (start k : ℕ) (old new : Entry) → EntryStays old new → k ≢ 1 → IsOpenRunPage ty start k old → IsOpenRunPage ty start k new
IsOpenRunPage-stays ty start k Free new s long h = absurd h
IsOpenRunPage-stays ty start k (Used ty' g fill first n) Free s long h = absurd s
IsOpenRunPage-stays ty start k (Used ty' g fill first n) (Used ty'' g' fill' first' n') s long h =
    (s.0 ∙ h.0, s.1 ∙ h.1, s.5 (λ one. long (sym h.4 ∙ one)) ∙ h.2, s.2 ∙ h.3, s.3 ∙ h.4)

-- every entry stays, and none is lost
pub record PagesStay (old new : List Entry) : Type 0 where
  pub lengths : length new ≡ length old
  pub each : (i : ℕ) → EntryStays (entry_at old i) (entry_at new i)

pub IsPlaced-stays : (old new : List Entry) (o : Object) → PagesStay old new → IsPlaced old o → IsPlaced new o
IsPlaced-stays old new o s h = record {
  even = h.even;
  inside = rw s.lengths h.inside;
  small = λ e. IsOnPage-stays o (entry_at old (o.place / page_words)) (entry_at new (o.place / page_words)) (s.each (o.place / page_words)) (h.small e);
  large_start = h.large_start;
  large = λ e i l. IsPageOfRun-stays o i (entry_at old (o.place / page_words + i)) (entry_at new (o.place / page_words + i))
      (s.each (o.place / page_words + i)) (λ one. omega (arith, needs_two (words_of_object o) e)) (h.large e i l);
}

pub IsOpenRun-stays : (old new : List Entry) (first : ℕ) → PagesStay old new → IsOpenRun old first → IsOpenRun new first
IsOpenRun-stays old new first s h = record {
  ty = h.ty;
  k = h.k;
  long = h.long;
  inside = rw s.lengths h.inside;
  each = λ i l. let two = h.long in IsOpenRunPage-stays h.ty first h.k (entry_at old (first + i)) (entry_at new (first + i)) (s.each (first + i)) (λ one. omega arith) (h.each i l);
}

-- a page stays one of its type, its generation and its run
abbrev pub StaysInRun : Entry → Entry → Type 0
StaysInRun Free new = Unit {0}
StaysInRun (Used ty g fill first n) Free = ⊥
StaysInRun (Used ty g fill first n) (Used ty' g' fill' first' n') = (ty' ≡ ty) × (g' ≡ g) × (first' ≡ first) × (n' ≡ n)

pub StaysInRun-same : (e : Entry) → StaysInRun e e
StaysInRun-same Free = tt
StaysInRun-same (Used ty g fill first n) = (refl, refl, refl, refl)

pub StaysInRun-from : (old new : Entry) → EntryStays old new → StaysInRun old new
StaysInRun-from Free new s = tt
StaysInRun-from (Used ty g fill first n) Free s = s
StaysInRun-from (Used ty g fill first n) (Used ty' g' fill' first' n') s = (s.0, s.1, s.2, s.3)

SaysOfRun-stays : (ty : PageType) (g first k : ℕ) (old new : Entry) → StaysInRun old new → SaysOfRun ty g first k old → SaysOfRun ty g first k new
SaysOfRun-stays ty g first k Free new s h = absurd h
SaysOfRun-stays ty g first k (Used ty' g' fill first' n) Free s h = absurd s
SaysOfRun-stays ty g first k (Used ty' g' fill first' n) (Used ty'' g'' fill' first'' n') s h = (s.0 ∙ h.0, s.1 ∙ h.1, s.2 ∙ h.2, s.3 ∙ h.3)

-- a page that was in use stays in its run, and of one that was free it is known otherwise
pub IsInRun-stays : (old new : List Entry) (page : ℕ) → length new ≡ length old → ((i : ℕ) → StaysInRun (entry_at old i) (entry_at new i)) →
    (e e' : Entry) → StaysInRun e e' → IsInRun old page e → (e ≡ Free → IsInRun new page e') → IsInRun new page e'
IsInRun-stays old new page lengths each Free e' stays h taken = taken refl
IsInRun-stays old new page lengths each (Used ty g fill first k) Free stays h taken = tt
IsInRun-stays old new page lengths each (Used ty g fill first k) (Used ty' g' fill' first' k') stays h taken =
    let says : (i : ℕ) → i < k → SaysOfRun ty g first k (entry_at new (first + i)) =
    λ i l. SaysOfRun-stays ty g first k (entry_at old (first + i)) (entry_at new (first + i)) (each (first + i)) (h.3 i l) in
    let inside : first + k ≤ length new = rw lengths h.2 in
    rw (stays.0, stays.1, stays.2, stays.3) (h.0, h.1, inside, says)

-- two objects lie in the same words and are of the same kind
pub record IsSameShape (o q : Object) : Type 0 where
  pub place : q.place ≡ o.place
  pub generation : q.generation ≡ o.generation
  pub kind : kind_of q.contents ≡ kind_of o.contents
  pub payload : payload_of q.contents ≡ payload_of o.contents

pub same_words : (o q : Object) → IsSameShape o q → words_of_object q ≡ words_of_object o
same_words o q s = rw (s.kind, s.payload) refl

pub IsOnPage-shape : (o q : Object) (e : Entry) → IsSameShape o q → IsOnPage o e → IsOnPage q e
IsOnPage-shape o q Free s h = absurd h
IsOnPage-shape o q (Used ty g fill first n) s h = rw (s.kind, s.generation, s.place, s.payload) h

pub IsPageOfRun-shape : (o q : Object) (i : ℕ) (e : Entry) → IsSameShape o q → IsPageOfRun o i e → IsPageOfRun q i e
IsPageOfRun-shape o q i Free s h = absurd h
IsPageOfRun-shape o q i (Used ty g fill first n) s h = rw (s.kind, s.generation, s.place, s.payload) h

pub IsPlaced-shape : (pages : List Entry) (o q : Object) → IsSameShape o q → IsPlaced pages o → IsPlaced pages q
IsPlaced-shape pages o q s h = record {
  even = rw s.place h.even;
  inside = rw (s.place, same_words o q s) h.inside;
  small = λ e. subst (λ (x : ℕ). IsOnPage q (entry_at pages (x / page_words))) (sym s.place)
      (IsOnPage-shape o q (entry_at pages (o.place / page_words)) s (h.small (rw (same_words o q s) at e)));
  large_start = λ e. rw s.place (h.large_start (rw (same_words o q s) at e));
  large = λ e i l. subst (λ (x : ℕ). IsPageOfRun q i (entry_at pages (x / page_words + i))) (sym s.place)
      (IsPageOfRun-shape o q i (entry_at pages (o.place / page_words + i)) s
      (h.large (rw (same_words o q s) at e) i (rw (same_words o q s) at l)));
}

pub AreApart-shape : (o q o' q' : Object) → IsSameShape o o' → IsSameShape q q' → AreApart o q → AreApart o' q'
AreApart-shape o q o' q' s r h = rw (s.place, same_words o o' s, r.place, same_words q q' r) h
