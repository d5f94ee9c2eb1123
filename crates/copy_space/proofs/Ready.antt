-- What the code needs to settle an object: it can be placed, its words and its mark are there, a move more has room, and
-- where it finds a place its copy fits there and shares no word with it.
use Rattle.std.proofs.Common.{◌≡◌, ◌≢◌, ℕ, ◌+◌, ◌/◌, ◌<◌, ◌≤◌, List, length, set, Option, Some, None, ◌⊎◌, inl, inr, refl, sym, ◌∙◌, ap, subst, arith}
use Rattle.std.proofs.lemmas.List.{length-set}
use Rattle.std.proofs.lemmas.List.Sums.{count_by-le-length}
use Rattle.std.specs.Prelude.{slice_index}
use Rattle.heap_terms.specs.declared.kinds.Kind.{Kind}
use Rattle.heap_terms.specs.declared.kinds.Kind.TheVariants as kinds
use Rattle.heap_terms.specs.declared.kinds.PageType.{PageType}
use Rattle.heap_terms.specs.declared.kinds.PageType.TheVariants as types
use Rattle.heap_terms.specs.declared.limits.TheConstants.{MOST_WORDS, MOST_ELEMENTS}
use Rattle.heap_terms.specs.declared.pages.Entry.{Entry}
use Rattle.heap_terms.specs.Heap.{NamedHeap}
use Rattle.heap_terms.specs.Layout.{page_type_of, size_of, lowtag_of, header_of, reference_word}
use Rattle.heap_terms.specs.Objects.{Object, kind_of, payload_of, words_of_object}
use Rattle.heap_terms.specs.Slots.{Raw}
use Rattle.lisp_words.specs.declared.pointers.Lowtag.{Lowtag}
use Rattle.lisp_words.specs.declared.pointers.Lowtag.TheVariants as lowtags
use Rattle.lisp_words.specs.Tagged.{tag_bits}
use Rattle.pass_laws.proofs.Sizes.{words_least, words_even}
use Rattle.copy_space.specs.declared.marks.Mark.TheVariants as marks
use Rattle.copy_space.specs.declared.placing.PagesInUse.{PagesInUse}
use Rattle.heap_terms.specs.Placement.{Placement}
use Rattle.copy_space.specs.Copying.{Evacuates}
use Rattle.copy_space.specs.Finding.{CanSettle, IsHeaderAt}
use Rattle.copy_space.specs.Marks.{mark_at, is_set}
use Rattle.copy_space.specs.Moved.{new_of}
use Rattle.copy_space.specs.State.{CopyState}
use Rattle.copy_space.specs.Step.{CanPlace, IsStep}
use Rattle.copy_space.proofs.Copies.{forwarded, IsForwarded, forwarded-is}
use Rattle.copy_space.proofs.Moving.{stepped, count-set, lands_inside, lands_apart}
use Rattle.copy_space.proofs.NextPlace.{taken-pages}
use Rattle.copy_space.proofs.Places.{placed_before}
use Rattle.copy_space.proofs.Referents.{ms, its, is_moved, here_unless_moved}
use Rattle.copy_space.proofs.Settling.{it, next-of, moved-evacuates, stayed-evacuates}
use Rattle.copy_space.proofs.Shapes.{header_leads, payload-most}

size-most : (kind : Kind) (n : ℕ) → n ≤ MOST_ELEMENTS → size_of kind n ≤ 65536
size-most kinds.Cons n l = omega arith
size-most kinds.Vector n l = omega arith
size-most kinds.Instance n l = omega arith
size-most kinds.Closure n l = omega arith
size-most kinds.Words n l = omega arith
size-most kinds.Weak n l = omega arith
size-most kinds.Table n l = omega arith

-- the lowtag of a cons is its own
pub is-cons : (kind : Kind) → tag_bits lowtags.List ≡ lowtag_of kind → kind ≡ kinds.Cons
is-cons kinds.Cons e = refl
is-cons kinds.Vector e = absurd (omega (arith, e))
is-cons kinds.Instance e = absurd (omega (arith, e))
is-cons kinds.Closure e = absurd (omega (arith, e))
is-cons kinds.Words e = absurd (omega (arith, e))
is-cons kinds.Weak e = absurd (omega (arith, e))
is-cons kinds.Table e = absurd (omega (arith, e))

pub not-cons : (tag : Lowtag) (kind : Kind) → tag ≢ lowtags.List → tag_bits tag ≡ lowtag_of kind → kind ≢ kinds.Cons
not-cons lowtags.Instance kind apart e = λ is. (let seven : 3 ≡ 7 = e ∙ ap lowtag_of is in omega (arith, seven))
not-cons lowtags.List kind apart e = absurd (apart refl)
not-cons lowtags.Function kind apart e = λ is. (let seven : 11 ≡ 7 = e ∙ ap lowtag_of is in omega (arith, seven))
not-cons lowtags.Other kind apart e = λ is. (let seven : 15 ≡ 7 = e ∙ ap lowtag_of is in omega (arith, seven))

-- before it is placed
pub record IsReady (a : NamedHeap) (s : CopyState) (old : ℕ) (o : Object) : Type 0 where
  pub can : CanPlace s.pages s.in_use (words_of_object o)
  pub inside : old + words_of_object o ≤ length s.words
  pub small : length s.words ≤ MOST_WORDS
  pub mark : old / 2 < length s.marks
  pub push : length s.moves < s.room

pub is-ready : (a : NamedHeap) (s : CopyState) (old : ℕ) (tag : Lowtag) (word : ℕ) (c : CanSettle a s old tag word) → IsReady a s old (it a s old tag word c).start.o
is-ready a s old tag word c =
    let p = c.midway.places in
    let r = c.found c.value c.is_word in
    let o = r.start.o in
    let before = (placed_before a s (ms a s p) p.sound (its a s p) r.name o r.start.there).inside in
    let long = p.long in
    let marks_long = p.marks_long in
    let most = p.most in
    let here = r.start.here in
    let least = words_least o in
    let mark_inside : old / 2 < length s.marks = omega arith in
    let pages_long = (its a s p).placing.lengths in
    let count = count-set s.marks (old / 2) marks.Moved mark_inside (ap is_set r.fresh) refl in
    let bound = count_by-le-length is_set (set s.marks (old / 2) marks.Moved) in
    let set_long = length-set s.marks (old / 2) marks.Moved in
    let counted = p.counted in
    let room = p.room in
    record {
      can = record {
        taken = taken-pages s.pages s.in_use (ms a s p) (its a s p).placing.in_use;
        most = omega arith;
        least = least;
        even = words_even o;
        bound = size-most (kind_of o.contents) (payload_of o.contents) (payload-most o.contents (p.sound.objects r.name o r.start.there).shape);
      };
      inside = omega arith;
      small = omega arith;
      mark = mark_inside;
      push = omega arith;
    }

-- where it finds a place
pub record Fits (s : CopyState) (old to size : ℕ) : Type 0 where
  pub inside : to + size ≤ length s.words
  pub apart : (old + size ≤ to) ⊎ (to + size ≤ old)

pub fits-there : (a : NamedHeap) (s : CopyState) (old : ℕ) (tag : Lowtag) (word : ℕ) (c : CanSettle a s old tag word) (pages : List Entry) (in_use : PagesInUse) (to : ℕ) →
    IsStep s.pages s.in_use (page_type_of (kind_of (it a s old tag word c).start.o.contents)) (words_of_object (it a s old tag word c).start.o) (Some to) pages in_use →
    Fits s old to (words_of_object (it a s old tag word c).start.o)
fits-there a s old tag word c pages in_use to step =
    let r = c.found c.value c.is_word in
    let next = next-of a s c.value word old tag r in
    let inside = lands_inside a s c.midway r.name r.start.o next pages in_use to step in
    let long = c.midway.places.long in
    let here = r.start.here in
    record {
      inside = omega arith;
      apart = elim (lands_apart a s c.midway r.name r.start.o next pages in_use to step r.name r.start.o r.start.there) [ inl l ↦ inr (omega arith) | inr l ↦ inl (omega arith) ];
    }

-- the header of an object that has one stands where the object is
pub header-there : (a : NamedHeap) (s : CopyState) (old : ℕ) (tag : Lowtag) (word : ℕ) (c : CanSettle a s old tag word) → tag ≢ lowtags.List →
    IsHeaderAt s.words old (kind_of (it a s old tag word c).start.o.contents) (payload_of (it a s old tag word c).start.o.contents)
header-there a s old tag word c apart =
    let p = c.midway.places in
    let r = c.found c.value c.is_word in
    let o = r.start.o in
    let headed = not-cons tag (kind_of o.contents) apart r.tagged in
    let shape = (p.sound.objects r.name o r.start.there).shape in
    let here : new_of s.moves o.place ≡ o.place = here_unless_moved a s p r.name o r.start.there (ap is_moved (ap (λ (i : ℕ). mark_at s.marks i) r.start.here ∙ r.fresh)) in
    let stands = c.midway.spelled.slots r.name o r.start.there 0 (Raw (header_of (kind_of o.contents) (payload_of o.contents))) (header_leads o.contents shape headed) in
    let at : new_of s.moves o.place + 0 ≡ old = omega (arith, here, r.start.here) in
    record {
      headed = headed;
      most = payload-most o.contents shape;
      here = subst (λ (i : ℕ). slice_index s.words i ≡ header_of (kind_of o.contents) (payload_of o.contents)) at stands;
    }

-- an object with the lowtag of a cons is one
pub record IsCons (o : Object) : Type 0 where
  pub kind : kind_of o.contents ≡ kinds.Cons
  pub size : words_of_object o ≡ 2

pub cons-of : (a : NamedHeap) (s : CopyState) (old : ℕ) (word : ℕ) (c : CanSettle a s old lowtags.List word) → IsCons (it a s old lowtags.List word c).start.o
cons-of a s old word c =
    let r = c.found c.value c.is_word in
    let kind = is-cons (kind_of r.start.o.contents) r.tagged in
    record { kind = kind; size = ap (λ (k : Kind). size_of k (payload_of r.start.o.contents)) kind }

module _ (a : NamedHeap) (s : CopyState) (old word : ℕ) (c : CanSettle a s old lowtags.List word) (pages : List Entry) (in_use : PagesInUse) where
  cons-step : (to : Option ℕ) → IsStep s.pages s.in_use types.Cons 2 to pages in_use →
      IsStep s.pages s.in_use (page_type_of (kind_of (it a s old lowtags.List word c).start.o.contents)) (words_of_object (it a s old lowtags.List word c).start.o) to pages in_use
  cons-step to step =
      let cons = cons-of a s old word c in
      let typed : IsStep s.pages s.in_use (page_type_of (kind_of (it a s old lowtags.List word c).start.o.contents)) 2 to pages in_use =
      subst (λ (k : Kind). IsStep s.pages s.in_use (page_type_of k) 2 to pages in_use) (sym cons.kind) step in
      subst (λ (n : ℕ). IsStep s.pages s.in_use (page_type_of (kind_of (it a s old lowtags.List word c).start.o.contents)) n to pages in_use) (sym cons.size) typed

  pub cons-fits : (to : ℕ) → IsStep s.pages s.in_use types.Cons 2 (Some to) pages in_use → Fits s old to 2
  cons-fits to step =
      subst (λ (n : ℕ). Fits s old to n) (cons-of a s old word c).size (fits-there a s old lowtags.List word c pages in_use to (cons-step (Some to) step))

  -- a cons moved
  pub cons-moved : (to result : ℕ) → IsStep s.pages s.in_use types.Cons 2 (Some to) pages in_use → result ≡ reference_word to kinds.Cons →
      Evacuates a s (stepped s (forwarded s.words old to 2 result) pages in_use old to marks.Moved) word result
  cons-moved to result step is =
      let cons = cons-of a s old word c in
      let fits = cons-fits to step in
      let ready = is-ready a s old lowtags.List word c in
      let inside = ready.inside in
      let size = cons.size in
      let fw = forwarded-is s.words old to 2 result (record { from_within = omega arith; to_within = fits.inside }) (omega arith) fits.apart in
      moved-evacuates a s old lowtags.List word c (forwarded s.words old to 2 result) pages in_use to result (cons-step (Some to) step)
      (is ∙ ap (λ (k : Kind). reference_word to k) (sym cons.kind))
      (subst (λ (n : ℕ). IsForwarded s.words (forwarded s.words old to 2 result) old to n result) (sym cons.size) fw)

-- a step that found no place changed nothing
none-same : (pages new : List Entry) (in_use using_now : PagesInUse) (ty : PageType) (size : ℕ) → IsStep pages in_use ty size None new using_now → (new ≡ pages) × (using_now ≡ in_use)
none-same pages new in_use using_now ty size step =
    (ap (λ (p : Placement). p.pages) step.filled_is, ap (λ (p : Placement). record { cons = p.cons_page; boxed = p.boxed_page; unboxed = p.unboxed_page }) step.filled_is)

-- a cons stayed
pub cons-stayed : (a : NamedHeap) (s : CopyState) (old word : ℕ) (c : CanSettle a s old lowtags.List word) (pages : List Entry) (in_use : PagesInUse) →
    IsStep s.pages s.in_use types.Cons 2 None pages in_use → Evacuates a s (stepped s s.words pages in_use old old marks.Stayed) word word
cons-stayed a s old word c pages in_use step =
    let same = none-same s.pages pages s.in_use in_use types.Cons 2 step in
    let step' : IsStep s.pages s.in_use types.Cons 2 None s.pages s.in_use =
    subst (λ (u : PagesInUse). IsStep s.pages s.in_use types.Cons 2 None s.pages u) same.1 (subst (λ (ps : List Entry). IsStep s.pages s.in_use types.Cons 2 None ps in_use) same.0 step) in
    let done = stayed-evacuates a s old lowtags.List word c (cons-step a s old word c s.pages s.in_use None step') in
    subst (λ (u : PagesInUse). Evacuates a s (stepped s s.words pages u old old marks.Stayed) word word) (sym same.1)
    (subst (λ (ps : List Entry). Evacuates a s (stepped s s.words ps s.in_use old old marks.Stayed) word word) (sym same.0) done)

-- an object with a header
module _ (a : NamedHeap) (s : CopyState) (old : ℕ) (tag : Lowtag) (word : ℕ) (c : CanSettle a s old tag word) (kind : Kind) (n : ℕ)
    (kind_is : kind ≡ kind_of (it a s old tag word c).start.o.contents) (n_is : n ≡ payload_of (it a s old tag word c).start.o.contents) where
  size_is : size_of kind n ≡ words_of_object (it a s old tag word c).start.o
  size_is = ap (λ (k : Kind). size_of k n) kind_is ∙ ap (λ (i : ℕ). size_of (kind_of (it a s old tag word c).start.o.contents) i) n_is

  pub headed-can : CanPlace s.pages s.in_use (size_of kind n)
  headed-can = subst (λ (i : ℕ). CanPlace s.pages s.in_use i) (sym size_is) (is-ready a s old tag word c).can

  pub headed-inside : old + size_of kind n ≤ length s.words
  headed-inside = subst (λ (i : ℕ). old + i ≤ length s.words) (sym size_is) (is-ready a s old tag word c).inside

  headed-step : (to : Option ℕ) (pages : List Entry) (in_use : PagesInUse) → IsStep s.pages s.in_use (page_type_of kind) (size_of kind n) to pages in_use →
      IsStep s.pages s.in_use (page_type_of (kind_of (it a s old tag word c).start.o.contents)) (words_of_object (it a s old tag word c).start.o) to pages in_use
  headed-step to pages in_use step =
      let typed : IsStep s.pages s.in_use (page_type_of (kind_of (it a s old tag word c).start.o.contents)) (size_of kind n) to pages in_use =
      subst (λ (k : Kind). IsStep s.pages s.in_use (page_type_of k) (size_of kind n) to pages in_use) kind_is step in
      subst (λ (i : ℕ). IsStep s.pages s.in_use (page_type_of (kind_of (it a s old tag word c).start.o.contents)) i to pages in_use) size_is typed

  pub headed-fits : (to : ℕ) (pages : List Entry) (in_use : PagesInUse) → IsStep s.pages s.in_use (page_type_of kind) (size_of kind n) (Some to) pages in_use → Fits s old to (size_of kind n)
  headed-fits to pages in_use step =
      subst (λ (i : ℕ). Fits s old to i) (sym size_is) (fits-there a s old tag word c pages in_use to (headed-step (Some to) pages in_use step))

  pub headed-moved : (to result : ℕ) (pages : List Entry) (in_use : PagesInUse) → IsStep s.pages s.in_use (page_type_of kind) (size_of kind n) (Some to) pages in_use →
      result ≡ reference_word to kind → Evacuates a s (stepped s (forwarded s.words old to (size_of kind n) result) pages in_use old to marks.Moved) word result
  headed-moved to result pages in_use step is =
      let fits = headed-fits to pages in_use step in
      let least : 2 ≤ size_of kind n = subst (λ (i : ℕ). 2 ≤ i) (sym size_is) (words_least (it a s old tag word c).start.o) in
      let fw = forwarded-is s.words old to (size_of kind n) result (record { from_within = headed-inside; to_within = fits.inside }) least fits.apart in
      moved-evacuates a s old tag word c (forwarded s.words old to (size_of kind n) result) pages in_use to result (headed-step (Some to) pages in_use step)
      (is ∙ ap (λ (k : Kind). reference_word to k) kind_is)
      (subst (λ (i : ℕ). IsForwarded s.words (forwarded s.words old to (size_of kind n) result) old to i result) size_is fw)

  pub headed-stayed : (pages : List Entry) (in_use : PagesInUse) → IsStep s.pages s.in_use (page_type_of kind) (size_of kind n) None pages in_use →
      Evacuates a s (stepped s s.words pages in_use old old marks.Stayed) word word
  headed-stayed pages in_use step =
      let same = none-same s.pages pages s.in_use in_use (page_type_of kind) (size_of kind n) step in
      let step' : IsStep s.pages s.in_use (page_type_of kind) (size_of kind n) None s.pages s.in_use =
      subst (λ (u : PagesInUse). IsStep s.pages s.in_use (page_type_of kind) (size_of kind n) None s.pages u) same.1
      (subst (λ (ps : List Entry). IsStep s.pages s.in_use (page_type_of kind) (size_of kind n) None ps in_use) same.0 step) in
      let done = stayed-evacuates a s old tag word c (headed-step None s.pages s.in_use step') in
      subst (λ (u : PagesInUse). Evacuates a s (stepped s s.words pages u old old marks.Stayed) word word) (sym same.1)
      (subst (λ (ps : List Entry). Evacuates a s (stepped s s.words ps s.in_use old old marks.Stayed) word word) (sym same.0) done)
