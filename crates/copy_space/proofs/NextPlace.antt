-- The next step of a placement, from the state's own pages and moves.
use Rattle.std.proofs.Common.{◌≡◌, ℕ, ◌+◌, ◌-◌, ◌*◌, ◌/◌, ◌%◌, ◌<◌, ◌≤◌, List, [], ◌∷◌, ◌++◌, map, length, set, Option, Some, None, Bool, true, false, ◌⊎◌, inl, inr, refl, sym, ◌∙◌, ap, subst, arith}
use Rattle.std.proofs.lemmas.Bool.{cases_lt, cases_eq, cases_Bool, cond-false, leb-true, false≢true}
use Rattle.std.proofs.lemmas.List.{get_or-set_same, get_or-set_other}
use Rattle.std.proofs.lemmas.Option.{same_Some}
use Rattle.std.specs.Prelude.{unwrap_or, option_map, ◌&&◌, if◌then◌else◌}
use Rattle.heap_terms.specs.declared.events.Placing.{Placing}
use Rattle.heap_terms.specs.declared.kinds.PageType.{PageType}
use Rattle.heap_terms.specs.declared.kinds.PageType.TheVariants as types
use Rattle.heap_terms.specs.declared.pages.Entry.{Entry}
use Rattle.heap_terms.specs.declared.pages.Entry.TheVariants.{Free, Used}
use Rattle.heap_terms.specs.Heap.{NamedHeap, object_at, entry_at, fill_of}
use Rattle.heap_terms.specs.Layout.{page_words, page_type_of}
use Rattle.heap_terms.specs.Objects.{Object, kind_of, words_of_object}
use Rattle.heap_terms.specs.Placement.{Placement, scratch, page_in_use, using_page, fits_on, end_of, goes_to, lowest_run, taken_run, filled, with_move, place_object, placing_from, placement}
use Rattle.heap_terms.specs.Regions.{is_small, pages_needed}
use Rattle.pass_laws.proofs.FreeRuns.{taken_entries, lowest_free}
use Rattle.pass_laws.proofs.Landing.{AreInUse, used_inside}
use Rattle.pass_laws.proofs.Sizes.{small_needs, large_needs, large_least, needs_least}
use Rattle.copy_space.specs.declared.notes.Move.{Move}
use Rattle.copy_space.specs.declared.placing.PagesInUse.{PagesInUse}
use Rattle.copy_space.specs.Midway.{IsPlacement}
use Rattle.copy_space.specs.Moved.{noted}
use Rattle.copy_space.specs.State.{CopyState, placing_on}
use Rattle.copy_space.specs.Step.{AreTakenPages, IsStep}

-- the list of moves is no part of a step
page-moves : (q : Placement) (ms : List Placing) (ty : PageType) → page_in_use (record q { moves = ms }) ty ≡ page_in_use q ty
page-moves q ms types.Cons = refl
page-moves q ms types.Boxed = refl
page-moves q ms types.Unboxed = refl

goes-moves : (q : Placement) (ms : List Placing) (ty : PageType) (size : ℕ) → goes_to (record q { moves = ms }) ty size ≡ goes_to q ty size
goes-moves q ms types.Cons size = refl
goes-moves q ms types.Boxed size = refl
goes-moves q ms types.Unboxed size = refl

using-moves : (q : Placement) (ms : List Placing) (ty : PageType) (page : ℕ) → using_page (record q { moves = ms }) ty page ≡ record (using_page q ty page) { moves = ms }
using-moves q ms types.Cons page = refl
using-moves q ms types.Boxed page = refl
using-moves q ms types.Unboxed page = refl

filled-moves : (q : Placement) (ms : List Placing) (ty : PageType) (size : ℕ) (to : Option ℕ) → filled (record q { moves = ms }) ty size to ≡ record (filled q ty size to) { moves = ms }
filled-moves q ms ty size None = refl
filled-moves q ms ty size (Some index) = elim (cases_Bool (is_small size)) [
  | inl small ↦ rw small (using-moves (record q { pages = set q.pages (index / page_words) (Used ty scratch (index % page_words + size) (index / page_words) 1) }) ms ty (index / page_words))
  | inr large ↦ rw large refl
]

placing-append : (a : NamedHeap) (p : Placement) (order : List ℕ) (x : ℕ) → placing_from a p (order ++ x ∷ []) ≡ place_object (placing_from a p order) x (object_at a.objects x)
placing-append a p [] x = refl
placing-append a p (y ∷ rest) x = placing-append a (place_object p y (object_at a.objects y)) rest x

placement-append : (a : NamedHeap) (order : List ℕ) (x : ℕ) → placement a (order ++ x ∷ []) ≡ place_object (placement a order) x (object_at a.objects x)
unfolding placement
placement-append a order x = placing-append a _ order x

map-append-one : {X Y : Type 0} (f : X → Y) (xs : List X) (x : X) → map f (xs ++ x ∷ []) ≡ map f xs ++ f x ∷ []
map-append-one f [] x = refl
map-append-one f (y ∷ ys) x = ap (λ zs. f y ∷ zs) (map-append-one f ys x)

-- the placement with one more name
pub next-whole : (a : NamedHeap) (s t : CopyState) (order : List ℕ) (x : ℕ) (o : Object) (to : Option ℕ) → IsPlacement a s order → object_at a.objects x ≡ Some o →
    IsStep s.pages s.in_use (page_type_of (kind_of o.contents)) (words_of_object o) to t.pages t.in_use →
    placement a (order ++ x ∷ []) ≡ record (placing_on t.pages t.in_use) { moves = (placement a order).moves ++ record { name = x; old = o.place; new = to } ∷ [] }
next-whole a s t order x o to h e step =
    let p = placement a order in
    let q = placing_on s.pages s.in_use in
    let ty = page_type_of (kind_of o.contents) in
    let size = words_of_object o in
    let same : p ≡ record q { moves = p.moves } = ap (λ (r : Placement). record r { moves = p.moves }) (sym h.on_pages) in
    let after : Option ℕ → Placement = λ there. with_move (filled (record q { moves = p.moves }) ty size there) x o.place there in
    let goes : goes_to (record q { moves = p.moves }) ty size ≡ to = goes-moves q p.moves ty size ∙ sym step.goes in
    let all : placement a (order ++ x ∷ []) ≡ after to =
    placement-append a order x ∙ ap (place_object p x) e ∙ ap (λ (r : Placement). place_object r x (Some o)) same ∙ ap after goes in
    let m : Placing = record { name = x; old = o.place; new = to } in
    let flat : after to ≡ record (filled q ty size to) { moves = p.moves ++ m ∷ [] } = ap (λ (r : Placement). with_move r x o.place to) (filled-moves q p.moves ty size to) in
    all ∙ flat ∙ ap (λ (r : Placement). record r { moves = p.moves ++ m ∷ [] }) (sym step.filled_is)

pub next-placement : (a : NamedHeap) (s t : CopyState) (order : List ℕ) (x : ℕ) (o : Object) (to : Option ℕ) → IsPlacement a s order → object_at a.objects x ≡ Some o →
    IsStep s.pages s.in_use (page_type_of (kind_of o.contents)) (words_of_object o) to t.pages t.in_use →
    t.moves ≡ s.moves ++ record { old = o.place; new = unwrap_or to o.place } ∷ [] → IsPlacement a t (order ++ x ∷ [])
next-placement a s t order x o to h e step moves =
    let p = placement a order in
    let m : Placing = record { name = x; old = o.place; new = to } in
    let whole = next-whole a s t order x o to h e step in
    record {
      on_pages = sym (ap (λ (r : Placement). record r { moves = [] }) whole);
      moves = moves ∙ ap (λ (ms : List Move). ms ++ noted m ∷ []) h.moves ∙ sym (map-append-one noted p.moves m) ∙ sym (ap (λ (r : Placement). map noted r.moves) whole);
    }

-- the pages in use are pages that the pass took, whatever the moves
pub taken-pages : (pages : List Entry) (in_use : PagesInUse) (ms : List Placing) → AreInUse (record (placing_on pages in_use) { moves = ms }) → AreTakenPages pages in_use
taken-pages pages in_use ms h types.Cons page e = h types.Cons page e
taken-pages pages in_use ms h types.Boxed page e = h types.Boxed page e
taken-pages pages in_use ms h types.Unboxed page e = h types.Unboxed page e

-- where the used words of a step's pages lie
pub record FillsTo (pages new : List Entry) (index size : ℕ) : Type 0 where
  pub words : (page i : ℕ) → i < fill_of (entry_at new page) → (i < fill_of (entry_at pages page)) ⊎ ((index ≤ 512 * page + i) × (512 * page + i < index + size))

some_mapped : (f : ℕ → ℕ) (o : Option ℕ) (x : ℕ) → option_map f o ≡ Some x → (y : ℕ) × (o ≡ Some y) × (x ≡ f y)
some_mapped f None x e = cc
some_mapped f (Some y) x e = (y, refl, sym (same_Some (f y) x e))

-- which way is taken
not_second : (b c : Bool) (x y z : Option ℕ) → c ≡ false → (if b && c then x else y) ≡ z → y ≡ z
not_second true c x y z f e = rw f at e
not_second false c x y z f e = e

not_first : (b c : Bool) (x y z : Option ℕ) → b ≡ false → (if b && c then x else y) ≡ z → y ≡ z
not_first b c x y z f e = rw f at e

-- a small one fills its page, from its index on
small-fills : (pages : List Entry) (ty : PageType) (index size : ℕ) → index / 512 < length pages → index % 512 ≤ fill_of (entry_at pages (index / 512)) →
    FillsTo pages (set pages (index / 512) (Used ty scratch (index % 512 + size) (index / 512) 1)) index size
small-fills pages ty index size inside behind = record {
  words = λ page i l. elim (cases_eq page (index / 512)) [
    | inr apart ↦ inl (let same = get_or-set_other pages (index / 512) page (Used ty scratch (index % 512 + size) (index / 512) 1) Free apart in
        subst (λ (e : Entry). i < fill_of e) same l)
    | inl is ↦ (let same : entry_at (set pages (index / 512) (Used ty scratch (index % 512 + size) (index / 512) 1)) page ≡ Used ty scratch (index % 512 + size) (index / 512) 1 =
        rw is (get_or-set_same pages (index / 512) (Used ty scratch (index % 512 + size) (index / 512) 1) Free inside) in
        let below : i < index % 512 + size = subst (λ (e : Entry). i < fill_of e) same l in
        elim (cases_lt i (index % 512)) [
          | inl m ↦ inl (rw is (let bound = behind in omega arith))
          | inr m ↦ inr (omega arith, omega arith)
        ])
  ];
}

-- a large one fills its run
large-fills : (pages : List Entry) (ty : PageType) (first size : ℕ) → is_small size ≡ false → first + pages_needed size ≤ length pages →
    FillsTo pages (taken_run pages ty first (pages_needed size) size) (512 * first) size
large-fills pages ty first size large inside =
    let k = pages_needed size in
    let run = taken_entries pages ty first k size (needs_least size) inside in
    let needs = large_needs size large in
    let least = large_least size large in
    let enough : (1 ≤ k) × (size ≤ 512 * k) × (512 * (k - 1) < size) = rw needs (omega arith, omega arith, omega arith) in
    record {
      words = λ page i l. elim (cases_lt page first) [
        | inl m ↦ inl (subst (λ (e : Entry). i < fill_of e) (run.below page m) l)
        | inr m ↦ elim (cases_lt page (first + k)) [
          | inr n ↦ inl (subst (λ (e : Entry). i < fill_of e) (run.above page n) l)
          | inl n ↦ (let back : first + (page - first) ≡ page = omega arith in
              elim (cases_lt ((page - first) + 1) k) [
                | inl more ↦ (let full : entry_at (taken_run pages ty first k size) page ≡ Used ty scratch 512 first k =
                    subst (λ (x : ℕ). entry_at (taken_run pages ty first k size) x ≡ Used ty scratch 512 first k) back (run.full (page - first) more) in
                    let bound : i < 512 = subst (λ (e : Entry). i < fill_of e) full l in inr (omega arith, omega arith))
                | inr end ↦ (let at : first + (k - 1) ≡ page = omega arith in
                    let last : entry_at (taken_run pages ty first k size) page ≡ Used ty scratch (size - 512 * (k - 1)) first k =
                    subst (λ (x : ℕ). entry_at (taken_run pages ty first k size) x ≡ Used ty scratch (size - 512 * (k - 1)) first k) at run.last in
                    let bound : i < size - 512 * (k - 1) = subst (λ (e : Entry). i < fill_of e) last l in inr (omega arith, omega arith))
              ])
        ]
      ];
    }

small_way : (q : Placement) (ty : PageType) (size index : ℕ) → is_small size ≡ true →
    (filled q ty size (Some index)).pages ≡ set q.pages (index / 512) (Used ty scratch (index % 512 + size) (index / 512) 1)
small_way q types.Cons size index small = rw small refl
small_way q types.Boxed size index small = rw small refl
small_way q types.Unboxed size index small = rw small refl

-- a step's used words are those from before and the object's
pub fills-to : (pages new : List Entry) (in_use using_now : PagesInUse) (ty : PageType) (size index : ℕ) → 2 ≤ size → AreTakenPages pages in_use →
    IsStep pages in_use ty size (Some index) new using_now → FillsTo pages new index size
fills-to pages new in_use using_now ty size index least taken step = elim (cases_Bool (is_small size)) [
  | inl small ↦ elim (cases_Bool (fits_on pages (page_in_use q ty) size)) [
    | inl fits ↦ on_page small (page_in_use q ty) refl fits (rw (small, fits) at (sym step.goes))
    | inr full ↦ (let there = some_mapped (λ first. page_words * first) (lowest_run pages (pages_needed size)) index (not_second (is_small size) (fits_on pages (page_in_use q ty) size) (end_of pages (page_in_use q ty)) (option_map (λ first. page_words * first) (lowest_run pages (pages_needed size))) (Some index) full (sym step.goes)) in
        let free = lowest_free pages (pages_needed size) there.0 there.1 in
        let inside = free.inside in
        let one = small_needs size small in
        let at = there.2 in
        subst (λ (ps : List Entry). FillsTo pages ps index size) (sym (new_is ∙ small_way q ty size index small))
        (small-fills pages ty index size (omega arith) (omega arith)))
  ]
  | inr large ↦ (let there = some_mapped (λ first. page_words * first) (lowest_run pages (pages_needed size)) index (not_first (is_small size) (fits_on pages (page_in_use q ty) size) (end_of pages (page_in_use q ty)) (option_map (λ first. page_words * first) (lowest_run pages (pages_needed size))) (Some index) large (sym step.goes)) in
      let free = lowest_free pages (pages_needed size) there.0 there.1 in
      let at : index / 512 ≡ there.0 = (let is = there.2 in omega arith) in
      let way : (filled q ty size (Some index)).pages ≡ taken_run pages ty there.0 (pages_needed size) size = large_way large ∙ ap (λ (f : ℕ). taken_run pages ty f (pages_needed size) size) at in
      subst (λ (j : ℕ). FillsTo pages new j size) (sym there.2) (subst (λ (ps : List Entry). FillsTo pages ps (512 * there.0) size) (sym (new_is ∙ way)) (large-fills pages ty there.0 size large free.inside)))
]
  where
    q : Placement
    q = placing_on pages in_use

    new_is : new ≡ (filled q ty size (Some index)).pages
    new_is = ap (λ (r : Placement). r.pages) step.filled_is

    large_way : is_small size ≡ false → (filled q ty size (Some index)).pages ≡ taken_run pages ty (index / 512) (pages_needed size) size
    large_way large =
        ap (λ (r : Placement). r.pages)
        (cond-false (is_small size) (using_page (record q { pages = set q.pages (index / page_words) (Used ty scratch (index % page_words + size) (index / page_words) 1) }) ty (index / page_words))
        (record q { pages = taken_run q.pages ty (index / page_words) (pages_needed size) size }) large)

    on_page : is_small size ≡ true → (u : Option ℕ) → page_in_use q ty ≡ u → fits_on pages u size ≡ true → end_of pages u ≡ Some index → FillsTo pages new index size
    on_page small None e fits there = absurd (false≢true fits)
    on_page small (Some page) e fits there =
        let room : fill_of (entry_at pages page) + size ≤ 512 = leb-true (fill_of (entry_at pages page) + size) page_words fits in
        let entry = taken ty page e in
        let inside = used_inside pages page ty scratch entry.0 page 1 entry.1 in
        let at : 512 * page + fill_of (entry_at pages page) ≡ index = same_Some (page_words * page + fill_of (entry_at pages page)) index there in
        let page_is : index / 512 ≡ page = omega arith in
        let fill_is : index % 512 ≡ fill_of (entry_at pages page) = omega arith in
        subst (λ (ps : List Entry). FillsTo pages ps index size) (sym (new_is ∙ small_way q ty size index small))
        (small-fills pages ty index size (omega arith) (rw page_is (omega arith)))
