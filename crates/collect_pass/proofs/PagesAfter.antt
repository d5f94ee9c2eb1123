-- The pages after the sweep are those of the heap after the pass, and the pages that it freed are those that the record tells.
use Rattle.std.proofs.Common.{◌≡◌, ◌≢◌, ℕ, ◌/◌, ◌<◌, List, [], ◌∷◌, map, length, Option, Some, None, Bool, false, inl, inr, refl, sym, ◌∙◌, ap, arith}
use Rattle.std.proofs.lemmas.Bool.{cases_Bool, eq-eqb, ne_eqb, false≢true}
use Rattle.std.proofs.lemmas.List.{ext_get_or, get_or-map, length-map}
use Rattle.std.proofs.lemmas.List.Elements.{All-head, All-tail}
use Rattle.std.specs.List.{list_any, range_with_len}
use Rattle.std.specs.Prelude.{All, filter, not, is_none, unwrap_or, ◌==◌, ◌&&◌, ◌||◌, if◌then◌else◌}
use Rattle.heap_terms.specs.declared.events.PassRecord.{PassRecord}
use Rattle.heap_terms.specs.declared.events.PinAt.{PinAt}
use Rattle.heap_terms.specs.declared.events.Placing.{Placing}
use Rattle.heap_terms.specs.declared.pages.Entry.{Entry}
use Rattle.heap_terms.specs.declared.pages.Entry.TheVariants.{Free, Used}
use Rattle.heap_terms.specs.Heap.{NamedHeap, entry_at}
use Rattle.heap_terms.specs.Passes.{after_pass, entry_after, is_held, is_freed}
use Rattle.pass_laws.proofs.AfterPages.{entry_is, pages_long, freed_page, page_freed}
use Rattle.copy_space.specs.declared.notes.Move.{Move}
use Rattle.copy_space.specs.Midway.{IsPlacedSoFar}
use Rattle.copy_space.specs.Moved.{noted}
use Rattle.copy_space.specs.State.{CopyState}
use Rattle.copy_space.proofs.Referents.{its}
use Rattle.page_sweep.specs.Flags.{is_pinned_on, is_stay_on}
use Rattle.page_sweep.specs.Held as sweeps
use Rattle.page_sweep.specs.Swept.{IsSwept}
use Rattle.trace_laws.specs.Ends.{IsEnd}
use Rattle.trace_laws.specs.Noted.{IsMoveOf}
use Rattle.collect_pass.proofs.Orders.{pages-are}

any-map : {X Y : Type 0} (q : Y → Bool) (f : X → Y) (xs : List X) → list_any q (map f xs) ≡ list_any (λ x. q (f x)) xs
any-map q f [] = refl
any-map q f (x ∷ xs) = ap (λ (b : Bool). q (f x) || b) (any-map q f xs)

filter-same : {X : Type 0} (p q : X → Bool) (xs : List X) → ((x : X) → p x ≡ q x) → filter p xs ≡ filter q xs
filter-same p q [] same = refl
filter-same p q (x ∷ xs) same = elim (cases_Bool (q x)) [
  | inl there ↦ (let also = same x ∙ there in rw (there, also) (ap (λ (ys : List _). x ∷ ys) (filter-same p q xs same)))
  | inr gone ↦ (let also = same x ∙ gone in rw (gone, also) (filter-same p q xs same))
]

-- equal indices mean a stay
stay-test : (new : Option ℕ) (old : ℕ) → new ≢ Some old → (old == unwrap_or new old) ≡ is_none new
stay-test None old away = eq-eqb old old refl
stay-test (Some index) old away = ne_eqb old index (λ same. away (ap (λ (n : ℕ). Some n) (sym same)))

stays-same : (a : NamedHeap) (first : ℕ) (ms : List Placing) → All (IsMoveOf a) ms → is_stay_on (map noted ms) first ≡ list_any (λ (m : Placing). is_none m.new && (m.old / 512 == first)) ms
stays-same a first [] all = refl
stays-same a first (m ∷ ms) all =
    let here = stay-test m.new m.old (All-head (IsMoveOf a) m ms all).away in
    let rest = stays-same a first ms (All-tail (IsMoveOf a) m ms all) in
    ap (λ (b : Bool). (b && (m.old / 512 == first)) || is_stay_on (map noted ms) first) here ∙ ap (λ (b : Bool). (is_none m.new && (m.old / 512 == first)) || b) rest

module _ (a : NamedHeap) (s : CopyState) (p : IsPlacedSoFar a s) (target : ℕ) (r : PassRecord) (end : IsEnd a s target r) where
  abbrev g : ℕ
  g = s.pass.generation

  held-same : (first : ℕ) → sweeps.is_held s.pins s.moves first ≡ is_held r first
  held-same first =
      ap (λ (pins : List ℕ). is_pinned_on pins first || is_stay_on s.moves first) end.pins
      ∙ ap (λ (b : Bool). b || is_stay_on s.moves first) (any-map (λ index. index / 512 == first) (λ (q : PinAt). q.index) r.pins)
      ∙ ap (λ (b : Bool). list_any (λ (q : PinAt). q.index / 512 == first) r.pins || b)
      (ap (λ (moves : List Move). is_stay_on moves first) end.moves ∙ stays-same a first r.moves end.moved)

  freed-entry : (e : Entry) → sweeps.is_freed s.pins s.moves g e ≡ is_freed r e
  freed-entry Free = refl
  freed-entry (Used ty n fill first k) =
      ap (λ (b : Bool). (n == g) && not b) (held-same first) ∙ ap (λ (m : ℕ). (n == m) && not (is_held r first)) (sym end.is_pass.generation)

  freed-same : (page : ℕ) → sweeps.is_freed s.pins s.moves g (entry_at s.pages page) ≡ is_freed r (entry_at a.pages page)
  freed-same page = elim ((its a s p).placing.fresh page) [
    | inl same ↦ ap (sweeps.is_freed s.pins s.moves g) same ∙ freed-entry (entry_at a.pages page)
    | inr taken ↦ (let bound = p.generation in
        let other : (7 == g) ≡ false = ne_eqb 7 g (λ same. omega (arith, same)) in
        ap (sweeps.is_freed s.pins s.moves g) taken.1.entry ∙ (rw other refl) ∙ sym (ap (is_freed r) taken.0))
  ]

  listed-same : (page : ℕ) → list_any (λ freed. freed == page) r.freed ≡ sweeps.is_freed s.pins s.moves g (entry_at s.pages page)
  listed-same page = elim (cases_Bool (is_freed r (entry_at a.pages page))) [
    | inl free ↦ page_freed a g target r p.sound end.is_pass page free ∙ sym (freed-same page ∙ free)
    | inr kept ↦ elim (cases_Bool (list_any (λ freed. freed == page) r.freed)) [
      | inl listed ↦ absurd (false≢true (sym kept ∙ freed_page a g target r p.sound end.is_pass page listed))
      | inr none ↦ none ∙ sym (freed-same page ∙ kept)
    ]
  ]

  entry-same : (page : ℕ) (e : Entry) → sweeps.is_freed s.pins s.moves g e ≡ list_any (λ freed. freed == page) r.freed → sweeps.swept_entry s.pins s.moves g target e ≡ entry_after r page e
  entry-same page Free same = refl
  entry-same page (Used ty n fill first k) same =
      let body : Bool → ℕ → ℕ → Entry = λ b m t. if b then Free else Used ty (if (n == m) || (n == 7) then t else n) fill first k in
      ap (λ (b : Bool). body b g target) same ∙ ap (λ (m : ℕ). body (list_any (λ freed. freed == page) r.freed) m target) (sym end.is_pass.generation)
      ∙ ap (λ (t : ℕ). body (list_any (λ freed. freed == page) r.freed) r.generation t) (sym end.is_pass.target)

  module _ (words : List ℕ) (pages : List Entry) (freed : List ℕ) (swept : IsSwept a s target words pages freed) where
    pub pages-after : pages ≡ (after_pass a r).pages
    pages-after = ext_get_or Free pages (after_pass a r).pages (long ∙ sym (pages_long a g target r p.sound end.is_pass)) same
      where
        long : length pages ≡ length a.pages
        long = ap length swept.pages_are ∙ length-map s.pages (sweeps.swept_entry s.pins s.moves g target) ∙ (its a s p).placing.lengths

        same : (page : ℕ) → page < length pages → entry_at pages page ≡ entry_at (after_pass a r).pages page
        same page less =
            let below : page < length s.pages = (let l = long in let m = (its a s p).placing.lengths in omega arith) in
            ap (λ (es : List Entry). entry_at es page) swept.pages_are ∙ get_or-map (sweeps.swept_entry s.pins s.moves g target) s.pages page Free Free below
            ∙ entry-same page (entry_at s.pages page) (sym (listed-same page))
            ∙ ap (λ (es : List Entry). entry_after r page (entry_at es page)) (sym (pages-are a s p target r end)) ∙ sym (entry_is a g target r p.sound end.is_pass page)

    pub freed-after : freed ≡ r.freed
    freed-after =
        swept.freed_are ∙ filter-same (λ page. sweeps.is_freed s.pins s.moves g (entry_at s.pages page)) (λ page. is_freed r (entry_at a.pages page)) (range_with_len 0 (length s.pages)) freed-same
        ∙ ap (λ (n : ℕ). filter (λ page. is_freed r (entry_at a.pages page)) (range_with_len 0 n)) (its a s p).placing.lengths ∙ sym end.is_pass.freed
