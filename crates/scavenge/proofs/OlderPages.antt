-- One page of older roots, and all of them: below the words that are walked lie the objects of the page that may have fields.
use Rattle.std.proofs.Common.{◌≡◌, ◌≢◌, ℕ, ◌+◌, ◌*◌, ◌/◌, ◌<◌, ◌≤◌, inl, inr, List, length, Some, Bool, true, false, refl, sym, ◌∙◌, ap, subst, arith}
use Rattle.std.proofs.lemmas.Bool.{cases_lt, cases_Bool, and_parts, and_from, eq-eqb, ne_eqb, false≢true}
use Rattle.std.specs.Prelude.{◌==◌, ◌&&◌, not}
use Rattle.heap_terms.specs.declared.kinds.Kind.{Kind}
use Rattle.heap_terms.specs.declared.kinds.Kind.TheVariants as kinds
use Rattle.heap_terms.specs.declared.kinds.PageType.{PageType}
use Rattle.heap_terms.specs.declared.pages.Entry.{Entry}
use Rattle.heap_terms.specs.declared.pages.Entry.TheVariants.{Free, Used}
use Rattle.heap_terms.specs.Heap.{NamedHeap, object_at, entry_at, fill_of}
use Rattle.heap_terms.specs.LaidOut.{laid_words}
use Rattle.heap_terms.specs.Layout.{page_type_of}
use Rattle.heap_terms.specs.Objects.{Object, kind_of, payload_of, words_of_object}
use Rattle.heap_terms.specs.OnPages.{IsOnPage, IsPageOfRun, IsPlaced}
use Rattle.heap_terms.specs.Placement.{scratch}
use Rattle.heap_terms.specs.Regions.{is_small}
use Rattle.object_walk.proofs.Places.{begins_below, ends_before, laid_fill}
use Rattle.pass_laws.proofs.Sizes.{large_least, large_needs}
use Rattle.copy_space.specs.Midway.{Midway}
use Rattle.copy_space.specs.Pages.{is_page_of}
use Rattle.copy_space.specs.State.{CopyState}
use Rattle.copy_space.proofs.Referents.{its}
use Rattle.scavenge.specs.Fields.{fields_behind, is_weak_kind}
use Rattle.scavenge.specs.Older.{may_have_fields, has_roots, root_words, IsEdge, CanScanPiece, AreObjectsScanned, IsPieceScanned, CanScanPage}
use Rattle.scavenge.specs.Noting.{HasAll, IsDone}
use Rattle.scavenge.specs.Scanning.{Scans}
use Rattle.scavenge.proofs.NotedStarts.{done-later, kind-weak}
use Rattle.scavenge.proofs.OlderPieces.{older, other-on_page}
use Rattle.scavenge.proofs.Shapes.{field_is_behind}

-- what a page is on which roots may begin
pub record IsRooted (e : Entry) (page g : ℕ) : Type 0 where
  pub other : is_page_of e g ≡ false
  pub laid : laid_words page e ≡ fill_of e

is_rooted : (e : Entry) (page g : ℕ) → has_roots e page g ≡ true → IsRooted e page g
is_rooted Free page g rooted_so = absurd (false≢true rooted_so)
is_rooted (Used ty k fill first n) page g rooted_so =
    let one = and_parts (not (k == g) && not (k == scratch) && may_have_fields ty) (first == page) rooted_so in
    let two = and_parts (not (k == g) && not (k == scratch)) (may_have_fields ty) one.0 in
    let three = and_parts (not (k == g)) (not (k == scratch)) two.0 in
    let apart : (k == g) ≡ false = not_true (k == g) three.0 in
    record { other = apart; laid = rw one.1 refl }
  where
    not_true : (b : Bool) → not b ≡ true → b ≡ false
    not_true true e = absurd (false≢true e)
    not_true false e = refl

-- where there are words with roots, they are all words of such a page
pub record HasRoots (e : Entry) (page g words : ℕ) : Type 0 where
  pub rooted : IsRooted e page g
  pub all : words ≡ fill_of e

with_roots : (e : Entry) (page g words : ℕ) → words ≡ root_words e page g → 0 < words → HasRoots e page g words
with_roots e page g words is some = elim (cases_Bool (has_roots e page g)) [
  | inl rooted_so ↦ record { rooted = is_rooted e page g rooted_so; all = rw rooted_so at is }
  | inr none_so ↦ (let none : words ≡ 0 = rw none_so at is in absurd (omega (arith, none, some)))
]

module _ (a : NamedHeap) (s : CopyState) (page words : ℕ) (can : CanScanPage a s page words) where
  pub rooted_page : 0 < words → HasRoots (entry_at a.pages page) page s.pass.generation words
  rooted_page some = with_roots (entry_at a.pages page) page s.pass.generation words can.words_are some

  pub words-most : words ≤ 512
  words-most = elim (cases_lt 0 words) [
    | inr none ↦ omega arith
    | inl some ↦ (let all = (rooted_page some).all in let most = (its a s can.midway.places).most_before page in omega arith)
  ]

  pub page-edge : 512 * page < 512 * page + words → IsEdge a (512 * page)
  page-edge some =
      let page_is = rooted_page (omega (arith, some)) in
      let laid : 0 < laid_words page (entry_at a.pages page) = (let l = page_is.rooted.laid in let all = page_is.all in omega (arith, some)) in
      let sound = can.midway.places.sound in
      record {
        even = omega arith;
        before = λ name o there. ends_before a.pages page o sound.entries (sound.objects name o there).placed laid;
      }

  -- a state over the loop
  module _ (t : CopyState) (h : Scans a s t) (index : ℕ) (low : 512 * page ≤ index) (high : index < 512 * page + words) where
    pub piece-of_page : IsEdge a index → CanScanPiece a t index
    piece-of_page edge =
        let page_is = rooted_page (omega (arith, low, high)) in
        record {
          midway = h.midway;
          edge = edge;
          page = page;
          from = low;
          below = (let all = page_is.all in omega (arith, low, high));
          other = subst (λ (g : ℕ). is_page_of (entry_at a.pages page) g ≡ false) (sym (ap (λ p. p.generation) h.follows.grows.pass)) page_is.rooted.other;
        }

    pub pieces-on : (u : CopyState) (old new : List ℕ) (next : ℕ) → Scans a t u → HasAll old new → AreObjectsScanned a t old (512 * page) index → IsPieceScanned a u new index next →
        AreObjectsScanned a u new (512 * page) next
    pieces-on u old new next k all before piece = λ name o there from below.
        (elim (cases_lt o.place index) [
          | inr here ↦ piece.scanned name o there here below
          | inl lower ↦ (let page_is = rooted_page (omega (arith, low, high)) in
              let most = words-most in
              let on : o.place / 512 ≡ page = omega arith in
              let other : is_page_of (entry_at a.pages page) t.pass.generation ≡ false =
              subst (λ (g : ℕ). is_page_of (entry_at a.pages page) g ≡ false) (sym (ap (λ p. p.generation) h.follows.grows.pass)) page_is.rooted.other in
              let it = older a t h.midway name o there (other-on_page a t h.midway page other name o there on) in
              done-later a t u old new k.follows all name o there it.settled (before name o there from lower))
        ])

-- the pages that a pass has taken have no older roots, nor had they when they were free
taken_none : (ty : PageType) (fill first n page g : ℕ) → has_roots (Used ty scratch fill first n) page g ≡ true → ⊥
taken_none ty fill first n page g rooted_so =
    let one = and_parts (not (scratch == g) && not (scratch == scratch) && may_have_fields ty) (first == page) rooted_so in
    let two = and_parts (not (scratch == g) && not (scratch == scratch)) (may_have_fields ty) one.0 in
    false≢true (and_parts (not (scratch == g)) (not (scratch == scratch)) two.0).1

pub same-roots : (a : NamedHeap) (s : CopyState) → Midway a s → (page g : ℕ) → root_words (entry_at s.pages page) page g ≡ root_words (entry_at a.pages page) page g
same-roots a s h page g = elim ((its a s h.places).placing.fresh page) [
  | inl same ↦ ap (λ (e : Entry). root_words e page g) same
  | inr taken ↦ (let t = taken.1 in
      let none : root_words (Used t.ty scratch t.fill t.first t.count) page g ≡ 0 = elim (cases_Bool (has_roots (Used t.ty scratch t.fill t.first t.count) page g)) [
        | inl rooted_so ↦ absurd (taken_none t.ty t.fill t.first t.count page g rooted_so)
        | inr none_so ↦ rw none_so refl
      ] in
      ap (λ (e : Entry). root_words e page g) t.entry ∙ none ∙ sym (ap (λ (e : Entry). root_words e page g) taken.0))
]

-- how an object begins on its page
pub record BeginsOn (e : Entry) (o : Object) : Type 0 where
  pub ty : PageType
  pub fill : ℕ
  pub n : ℕ
  pub entry : e ≡ Used ty o.generation fill (o.place / 512) n
  pub type : ty ≡ page_type_of (kind_of o.contents)

on_page : (o : Object) (e : Entry) → IsOnPage o e → BeginsOn e o
on_page o Free h = absurd h
on_page o (Used ty g fill first n) h =
    record { ty = ty; fill = fill; n = n; type = h.0; entry = ap (λ (k : ℕ). Used ty k fill first n) h.1 ∙ ap (λ (k : ℕ). Used ty o.generation fill k n) h.2 }

on_run : (o : Object) (i : ℕ) (e : Entry) → IsPageOfRun o i e → BeginsOn e o
on_run o i Free h = absurd h
on_run o i (Used ty g fill first n) h =
    record { ty = ty; fill = fill; n = n; type = h.0; entry = ap (λ (k : ℕ). Used ty k fill first n) h.1 ∙ ap (λ (k : ℕ). Used ty o.generation fill k n) h.2 }

pub begins_on : (pages : List Entry) (o : Object) → IsPlaced pages o → BeginsOn (entry_at pages (o.place / 512)) o
begins_on pages o h = elim (cases_Bool (is_small (words_of_object o))) [
  | inl small ↦ on_page o (entry_at pages (o.place / 512)) (h.small small)
  | inr large ↦ (let least = large_least (words_of_object o) large in
      let needs = large_needs (words_of_object o) large in
      let at : o.place / 512 + 0 ≡ o.place / 512 = omega arith in
      on_run o 0 (entry_at pages (o.place / 512)) (rw at at (h.large large 0 (omega arith))))
]

-- raw words have no fields
no_fields : (o : Object) → may_have_fields (page_type_of (kind_of o.contents)) ≡ false → kind_of o.contents ≡ kinds.Words
no_fields o e = go (kind_of o.contents) e
  where
    go : (kind : Kind) → may_have_fields (page_type_of kind) ≡ false → kind ≡ kinds.Words
    go kinds.Cons f = absurd (false≢true (sym f))
    go kinds.Vector f = absurd (false≢true (sym f))
    go kinds.Instance f = absurd (false≢true (sym f))
    go kinds.Closure f = absurd (false≢true (sym f))
    go kinds.Words f = refl
    go kinds.Weak f = absurd (false≢true (sym f))
    go kinds.Table f = absurd (false≢true (sym f))

words_scanned : (a : NamedHeap) (s : CopyState) (listed : List ℕ) (o : Object) → kind_of o.contents ≡ kinds.Words → IsDone a s listed o
words_scanned a s listed o words = record {
  scanned = λ i v f.
      (let headed : kind_of o.contents ≢ kinds.Cons = λ cons. (let never : kinds.Words ≡ kinds.Cons = sym words ∙ cons in cc) in
      let at = field_is_behind o.contents headed i v f in
      let from = at.from in
      let below : i < 1 + 0 = subst (λ (kind : Kind). i < 1 + fields_behind kind (payload_of o.contents)) words at.below in
      absurd (omega arith));
  noted = λ weak. absurd (false≢true (sym (ap is_weak_kind words) ∙ kind-weak o.contents ∙ weak));
}

-- an object of another generation begins below the words of its page that are walked, or it has no fields
pub below-roots : (a : NamedHeap) (s t : CopyState) (listed : List ℕ) → Midway a s → (name : ℕ) (o : Object) → object_at a.objects name ≡ Some o → o.generation ≢ s.pass.generation →
    512 * (o.place / 512) + root_words (entry_at a.pages (o.place / 512)) (o.place / 512) s.pass.generation ≤ o.place → IsDone a t listed o
below-roots a s t listed h name o there apart past =
    let object = h.places.sound.objects name o there in
    let b = begins_on a.pages o object.placed in
    elim (cases_Bool (may_have_fields b.ty)) [
      | inr none ↦ words_scanned a t listed o (no_fields o (ap may_have_fields (sym b.type) ∙ none))
      | inl some ↦ (let g = s.pass.generation in
          let bound = object.generation in
          let own : not (o.generation == g) ≡ true = ap not (ne_eqb o.generation g apart) in
          let kept : not (o.generation == scratch) ≡ true = ap not (ne_eqb o.generation scratch (λ same. omega (arith, same, bound))) in
          let first : (o.place / 512 == o.place / 512) ≡ true = eq-eqb (o.place / 512) (o.place / 512) refl in
          let rooted_so : has_roots (Used b.ty o.generation b.fill (o.place / 512) b.n) (o.place / 512) g ≡ true =
          and_from (not (o.generation == g) && not (o.generation == scratch) && may_have_fields b.ty) (o.place / 512 == o.place / 512)
          (and_from (not (o.generation == g) && not (o.generation == scratch)) (may_have_fields b.ty) (and_from (not (o.generation == g)) (not (o.generation == scratch)) own kept) some) first in
          let words_are : root_words (Used b.ty o.generation b.fill (o.place / 512) b.n) (o.place / 512) g ≡ b.fill = rw rooted_so refl in
          let words_there : root_words (entry_at a.pages (o.place / 512)) (o.place / 512) g ≡ b.fill = ap (λ (e : Entry). root_words e (o.place / 512) g) b.entry ∙ words_are in
          let fill_is : fill_of (entry_at a.pages (o.place / 512)) ≡ b.fill = ap fill_of b.entry in
          let laid = laid_fill (o.place / 512) (entry_at a.pages (o.place / 512)) in
          let begins = begins_below a.pages o object.placed in
          absurd (omega (arith, past, words_there, fill_is, laid, begins)))
    ]

-- one page more
module _ (a : NamedHeap) (s t : CopyState) (page words : ℕ) (h : Scans a s t) (words_are : words ≡ root_words (entry_at t.pages page) page s.pass.generation) where
  generation_t : t.pass.generation ≡ s.pass.generation
  generation_t = ap (λ p. p.generation) h.follows.grows.pass

  words_before : words ≡ root_words (entry_at a.pages page) page t.pass.generation
  words_before = words_are ∙ same-roots a t h.midway page s.pass.generation ∙ ap (λ (g : ℕ). root_words (entry_at a.pages page) page g) (sym generation_t)

  pub page-can : page < length a.pages → CanScanPage a t page words
  page-can inside = record { midway = h.midway; inside = inside; words_are = words_before }

  pub page-on : (u : CopyState) (old new : List ℕ) → Scans a t u → HasAll old new →
      ((name : ℕ) (o : Object) → object_at a.objects name ≡ Some o → o.generation ≢ s.pass.generation → o.place < 512 * page → IsDone a t old o) →
      AreObjectsScanned a u new (512 * page) (512 * page + words) →
      (name : ℕ) (o : Object) → object_at a.objects name ≡ Some o → o.generation ≢ s.pass.generation → o.place < 512 * (page + 1) → IsDone a u new o
  page-on u old new k all before here name o there apart below =
      let apart_t : o.generation ≢ t.pass.generation = λ same. apart (same ∙ generation_t) in
      elim (cases_lt o.place (512 * page)) [
        | inl lower ↦ done-later a t u old new k.follows all name o there (older a t h.midway name o there apart_t).settled (before name o there apart lower)
        | inr from ↦ elim (cases_lt o.place (512 * page + words)) [
          | inl walked ↦ here name o there from walked
          | inr past ↦ (let on : o.place / 512 ≡ page = omega arith in
              let words_is : words ≡ root_words (entry_at a.pages (o.place / 512)) (o.place / 512) t.pass.generation =
              words_before ∙ ap (λ (p : ℕ). root_words (entry_at a.pages p) p t.pass.generation) (sym on) in
              below-roots a t u new h.midway name o there apart_t (omega (arith, words_is, on, past)))
        ]
      ]
