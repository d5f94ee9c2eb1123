-- A placement keeps the layout: at each moment the objects, at their places so far, lie as they must and apart.
use Rattle.std.proofs.Common.{◌≡◌, ℕ, suc, ◌+◌, ◌*◌, ◌/◌, ◌%◌, ◌<◌, ◌≤◌, List, [], ◌∷◌, ◌++◌, length, get_or, set, Option, Some, None, Bool, true, false, ◌⊎◌, inl, inr, refl, sym, ◌∙◌, subst, ap, arith}
use Rattle.std.proofs.lemmas.Bool.{cases_eq, cases_Bool, or_parts, or_from, leb-true, false≢true, cond-false, eq-eqb, ne_eqb}
use Rattle.std.proofs.lemmas.List.Elements.{All-push, All-nil}
use Rattle.std.proofs.lemmas.List.Folds.{list_any-append}
use Rattle.std.proofs.lemmas.Option.{same_Some}
use Rattle.std.specs.List.{list_any}
use Rattle.std.specs.Prelude.{All, AllPairs, option_map, ◌&&◌, ◌==◌, if◌then◌else◌, ◌≢◌}
use Rattle.heap_terms.specs.declared.events.Placing.{Placing}
use Rattle.heap_terms.specs.declared.kinds.PageType.{PageType}
use Rattle.heap_terms.specs.declared.kinds.PageType.TheVariants as types
use Rattle.heap_terms.specs.declared.pages.Entry.{Entry}
use Rattle.heap_terms.specs.declared.pages.Entry.TheVariants.{Free, Used}
use Rattle.heap_terms.specs.Heap.{NamedHeap, object_at, entry_at, fill_of}
use Rattle.heap_terms.specs.Layout.{page_words, page_type_of}
use Rattle.heap_terms.specs.Objects.{Object, kind_of, words_of_object}
use Rattle.heap_terms.specs.Passes.{moved_to}
use Rattle.heap_terms.specs.Placement.{Placement, scratch, no_placement, page_in_use, using_page, fits_on, end_of, goes_to, lowest_run, taken_run, filled, with_move, place_object, placing_from, placement}
use Rattle.heap_terms.specs.Regions.{is_small, pages_needed}
use Rattle.heap_terms.specs.Sound.{IsSound}
use Rattle.heap_terms.specs.OnPages.{IsFill, IsEntry, IsPlaced, IsOnPage, IsPageOfRun, AreApart, SaysOfRun, IsInRun}
use Rattle.pass_laws.specs.Spread.{moved_object, settled, IsSpread}
use Rattle.pass_laws.proofs.FreeRuns.{AreFree, lowest_free}
use Rattle.pass_laws.proofs.Landing.{IsTaken, EntryStep, AreInUse, Lands, HasRoom, small_lands, large_lands, used_inside}
use Rattle.pass_laws.proofs.Sizes.{words_least, small_most, large_needs, large_least, small_needs, apart_above, apart_swapped}

-- a small object goes to a page and a fill
filled_small : (s : Placement) (o : Object) (page fill index : ℕ) → AreInUse s → is_small (words_of_object o) ≡ true →
    HasRoom s (page_type_of (kind_of o.contents)) (words_of_object o) page fill → index ≡ 512 * page + fill →
    Lands s (filled s (page_type_of (kind_of o.contents)) (words_of_object o) (Some index)) o index
filled_small s o page fill index used small h is =
    let ty = page_type_of (kind_of o.contents) in
    let size = words_of_object o in
    let least = words_least o in
    let room = h.room in
    let at_page : (512 * page + fill) / 512 ≡ page = omega arith in
    let at_fill : (512 * page + fill) % 512 ≡ fill = omega arith in
    rw (is, small, at_page, at_fill) (small_lands s o page fill used small h)

-- a large one goes to the start of a run
filled_large : (s : Placement) (o : Object) (first index : ℕ) → AreInUse s → is_small (words_of_object o) ≡ false →
    AreFree s.pages first (pages_needed (words_of_object o)) → index ≡ 512 * first →
    Lands s (filled s (page_type_of (kind_of o.contents)) (words_of_object o) (Some index)) o index
filled_large s o first index used large h is =
    let ty = page_type_of (kind_of o.contents) in
    let size = words_of_object o in
    let at : index / 512 ≡ first = omega arith in
    let small_way = using_page (record s { pages = set s.pages (index / 512) (Used ty scratch (index % 512 + size) (index / 512) 1) }) ty (index / 512) in
    let large_way : ℕ → Placement = λ page. record s { pages = taken_run s.pages ty page (pages_needed size) size } in
    let same : filled s ty size (Some index) ≡ large_way first =
    cond-false (is_small size) small_way (large_way (index / 512)) large ∙ ap large_way at in
    subst (λ (new : Placement). Lands s new o index) (sym same) (subst (λ (i : ℕ). Lands s (large_way first) o i) (sym is) (large_lands s o first used large h))

some_mapped : (f : ℕ → ℕ) (o : Option ℕ) (x : ℕ) → option_map f o ≡ Some x → (y : ℕ) × (o ≡ Some y) × (x ≡ f y)
some_mapped f None x e = cc
some_mapped f (Some y) x e = (y, refl, sym (same_Some (f y) x e))

-- which way is taken
not_second : (b c : Bool) (x y z : Option ℕ) → c ≡ false → (if b && c then x else y) ≡ z → y ≡ z
not_second true c x y z f e = rw f at e
not_second false c x y z f e = e

not_first : (b c : Bool) (x y z : Option ℕ) → b ≡ false → (if b && c then x else y) ≡ z → y ≡ z
not_first b c x y z f e = rw f at e

-- wherever an object goes, it lands there
pub lands : (s : Placement) (o : Object) (index : ℕ) → AreInUse s →
    goes_to s (page_type_of (kind_of o.contents)) (words_of_object o) ≡ Some index →
    Lands s (filled s (page_type_of (kind_of o.contents)) (words_of_object o) (Some index)) o index
lands s o index used e = elim (cases_Bool (is_small (words_of_object o))) [
  | inl small ↦ elim (cases_Bool (fits_on s.pages (page_in_use s ty) size)) [
    | inl fits ↦ on_page (page_in_use s ty) refl small fits (rw (small, fits) at e)
    | inr not_fits ↦ new_page small (not_second (is_small size) (fits_on s.pages (page_in_use s ty) size) (end_of s.pages (page_in_use s ty)) _ (Some index) not_fits e)
  ]
  | inr large ↦ (let there = not_first (is_small size) (fits_on s.pages (page_in_use s ty) size) (end_of s.pages (page_in_use s ty)) (option_map (λ first. page_words * first) (lowest_run s.pages (pages_needed size))) (Some index) large e in
      let run = some_mapped (λ first. page_words * first) (lowest_run s.pages (pages_needed size)) index there in
      filled_large s o run.0 index used large (lowest_free s.pages (pages_needed size) run.0 run.1) run.2)
]
  where
    ty : PageType
    ty = page_type_of (kind_of o.contents)

    size : ℕ
    size = words_of_object o

    on_page : (q : Option ℕ) → page_in_use s ty ≡ q → is_small size ≡ true → fits_on s.pages q size ≡ true → end_of s.pages q ≡ Some index →
        Lands s (filled s ty size (Some index)) o index
    on_page None is small fits there = absurd (false≢true fits)
    on_page (Some page) is small fits there =
        let entry = used ty page is in
        let room : fill_of (entry_at s.pages page) + size ≤ 512 = leb-true (fill_of (entry_at s.pages page) + size) page_words fits in
        let room' : entry.0 + size ≤ 512 = rw entry.1 at room in
        let at : page_words * page + fill_of (entry_at s.pages page) ≡ index = same_Some (page_words * page + fill_of (entry_at s.pages page)) index there in
        let at' : 512 * page + entry.0 ≡ index = rw entry.1 at at in
        filled_small s o page entry.0 index used small
        (record { entry = inl entry.1; inside = used_inside s.pages page ty scratch entry.0 page 1 entry.1; room = room'; even = entry.2.even }) (sym at')

    new_page : is_small size ≡ true → option_map (λ first. page_words * first) (lowest_run s.pages (pages_needed size)) ≡ Some index →
        Lands s (filled s ty size (Some index)) o index
    new_page small there =
        let run = some_mapped (λ first. page_words * first) (lowest_run s.pages (pages_needed size)) index there in
        let one = small_needs size small in
        let free = lowest_free s.pages (pages_needed size) run.0 run.1 in
        let inside : run.0 + 1 ≤ length s.pages = (let i = free.inside in omega arith) in
        let here : entry_at s.pages run.0 ≡ Free = subst (λ (x : ℕ). entry_at s.pages x ≡ Free) (let z : run.0 + 0 ≡ run.0 = omega arith in z) (free.free 0 (omega arith)) in
        filled_small s o run.0 0 index used small
        (record { entry = inr (here, refl); inside = omega arith; room = (let m = small_most size small in omega arith); even = refl }) (run.2 ∙ omega arith)

-- an object stays placed at a step
IsOnPage-step : (o : Object) (e new : Entry) → EntryStep e new → IsOnPage o e → IsOnPage o new
IsOnPage-step o e new (inl same) h = rw same h
IsOnPage-step o e new (inr (inl taken)) h = absurd (rw taken.0 at h)
IsOnPage-step o e new (inr (inr filled)) h =
    let was : IsOnPage o (Used filled.ty scratch filled.fill filled.page 1) = subst (λ (x : Entry). IsOnPage o x) filled.entry h in
    let grows = filled.grows in
    rw filled.entry_new (was.0, was.1, was.2, was.3, (let fits = was.4 in omega arith))

IsPageOfRun-step : (o : Object) (i : ℕ) (e new : Entry) → is_small (words_of_object o) ≡ false → EntryStep e new → IsPageOfRun o i e → IsPageOfRun o i new
IsPageOfRun-step o i e new large (inl same) h = rw same h
IsPageOfRun-step o i e new large (inr (inl taken)) h = absurd (rw taken.0 at h)
IsPageOfRun-step o i e new large (inr (inr filled)) h =
    let was : IsPageOfRun o i (Used filled.ty scratch filled.fill filled.page 1) = subst (λ (x : Entry). IsPageOfRun o i x) filled.entry h in
    let needs = large_needs (words_of_object o) large in
    let least = large_least (words_of_object o) large in
    let one = was.3 in
    absurd (omega arith)

IsPlaced-step : (pages new : List Entry) (o : Object) → length new ≡ length pages → ((page : ℕ) → EntryStep (entry_at pages page) (entry_at new page)) →
    IsPlaced pages o → IsPlaced new o
IsPlaced-step pages new o same steps h = record {
  even = h.even;
  inside = rw same h.inside;
  small = λ small. IsOnPage-step o _ (entry_at new (o.place / page_words)) (steps (o.place / page_words)) (h.small small);
  large_start = h.large_start;
  large = λ large i l. IsPageOfRun-step o i _ (entry_at new (o.place / page_words + i)) large (steps (o.place / page_words + i)) (h.large large i l);
}

-- and a page in its run
SaysOfRun-step : (ty : PageType) (g first k : ℕ) (e new : Entry) → EntryStep e new → SaysOfRun ty g first k e → SaysOfRun ty g first k new
SaysOfRun-step ty g first k e new (inl same) h = rw same h
SaysOfRun-step ty g first k e new (inr (inl taken)) h = absurd (rw taken.0 at h)
SaysOfRun-step ty g first k e new (inr (inr filled)) h =
    let was : SaysOfRun ty g first k (Used filled.ty scratch filled.fill filled.page 1) = subst (λ (x : Entry). SaysOfRun ty g first k x) filled.entry h in
    rw filled.entry_new was

IsInRun-same : (pages new : List Entry) (page : ℕ) (e : Entry) → length new ≡ length pages → ((page : ℕ) → EntryStep (entry_at pages page) (entry_at new page)) →
    IsInRun pages page e → IsInRun new page e
IsInRun-same pages new page Free same steps h = tt
IsInRun-same pages new page (Used ty g fill first k) same steps h =
    (h.0, h.1, rw same h.2, λ i l. SaysOfRun-step ty g first k _ (entry_at new (first + i)) (steps (first + i)) (h.3 i l))

IsInRun-step : (pages new : List Entry) (page : ℕ) → length new ≡ length pages → ((page : ℕ) → EntryStep (entry_at pages page) (entry_at new page)) →
    (entry_at pages page ≡ Free → IsInRun new page (entry_at new page)) → IsInRun pages page (entry_at pages page) → IsInRun new page (entry_at new page)
IsInRun-step pages new page same steps taken h = go (steps page)
  where
    go : EntryStep (entry_at pages page) (entry_at new page) → IsInRun new page (entry_at new page)
    go (inl kept) = rw kept (IsInRun-same pages new page (entry_at pages page) same steps h)
    go (inr (inl took)) = taken took.0
    go (inr (inr filled)) =
        let was : IsInRun pages page (Used filled.ty scratch filled.fill filled.page 1) = subst (λ (x : Entry). IsInRun pages page x) filled.entry h in
        rw filled.entry_new (IsInRun-same pages new page (Used filled.ty scratch filled.fill filled.page 1) same steps was)

pub settled-words : (to : Option ℕ) (o : Object) → words_of_object (settled to o) ≡ words_of_object o
settled-words None o = refl
settled-words (Some index) o = refl

-- a list of moves has a name
abbrev pub is_in : List Placing → ℕ → Bool
is_in moves name = list_any (λ (m : Placing). m.name == name) moves

pub moved_to-other : (moves : List Placing) (m : Placing) (name : ℕ) → m.name ≢ name → moved_to (moves ++ m ∷ []) name ≡ moved_to moves name
moved_to-other [] m name apart = rw (ne_eqb m.name name apart) refl
moved_to-other (k ∷ rest) m name apart = ap (λ (o : Option ℕ). if k.name == name then k.new else o) (moved_to-other rest m name apart)

pub moved_to-here : (moves : List Placing) (m : Placing) → is_in moves m.name ≡ false → moved_to (moves ++ m ∷ []) m.name ≡ m.new
moved_to-here [] m none = rw (eq-eqb m.name m.name refl) refl
moved_to-here (k ∷ rest) m none =
    let both = or_parts (k.name == m.name) (is_in rest m.name) none in rw both.0 (moved_to-here rest m both.1)

pub moved_to-none : (moves : List Placing) (name : ℕ) → is_in moves name ≡ false → moved_to moves name ≡ None
moved_to-none [] name none = refl
moved_to-none (k ∷ rest) name none =
    let both = or_parts (k.name == name) (is_in rest name) none in rw both.0 (moved_to-none rest name both.1)

-- a move tells where its object was
abbrev pub IsMoveOf : NamedHeap → Placing → Type 0
IsMoveOf a m = (o : Object) × (object_at a.objects m.name ≡ Some o) × (m.old ≡ o.place)

-- what holds of a placement so far, over the heap before the pass
pub record IsPlacing (a : NamedHeap) (s : Placement) : Type 0 where
  pub lengths : length s.pages ≡ length a.pages
  pub fresh : (page : ℕ) → (entry_at s.pages page ≡ entry_at a.pages page) ⊎ ((entry_at a.pages page ≡ Free) × IsTaken (entry_at s.pages page))
  pub in_use : AreInUse s
  pub spread : IsSpread a.objects s.moves s.pages
  pub runs : (page : ℕ) → IsInRun s.pages page (entry_at s.pages page)
  pub olds : All (IsMoveOf a) s.moves

-- pages are of generations that are collected
abbrev pub AreEntries : List Entry → Type 0
AreEntries pages = (page : ℕ) → IsEntry (entry_at pages page)

fresh-step : (e was new : Entry) → IsEntry e → (was ≡ e) ⊎ ((e ≡ Free) × IsTaken was) → EntryStep was new → (new ≡ e) ⊎ ((e ≡ Free) × IsTaken new)
fresh-step e was new h (inl same) (inl kept) = inl (kept ∙ same)
fresh-step e was new h (inr taken) (inl kept) = inr (taken.0, subst (λ (x : Entry). IsTaken x) (sym kept) taken.1)
fresh-step e was new h (inl same) (inr (inl taken)) = inr (sym same ∙ taken.0, taken.1)
fresh-step e was new h (inr taken) (inr (inl again)) =
    (let never : Free ≡ Used taken.1.ty scratch taken.1.fill taken.1.first taken.1.count = sym again.0 ∙ taken.1.entry in cc)
fresh-step e was new h (inl same) (inr (inr filled)) =
    (let here : e ≡ Used filled.ty scratch filled.fill filled.page 1 = sym same ∙ filled.entry in
    let bound = (subst (λ (x : Entry). IsEntry x) here h).0 in absurd (omega (arith, bound)))
fresh-step e was new h (inr taken) (inr (inr filled)) =
    inr (taken.0, record { ty = filled.ty; fill = filled.more; first = filled.page; count = 1; entry = filled.entry_new; is_fill = filled.is_fill })

-- fills are at most a page
pub fills_most : (a : NamedHeap) (s : Placement) → AreEntries a.pages → IsPlacing a s → (page : ℕ) → fill_of (entry_at s.pages page) ≤ 512
fills_most a s entries h page = elim (h.fresh page) [
  | inl same ↦ rw same (entry_most (entry_at a.pages page) (entries page))
  | inr taken ↦ rw taken.1.entry (taken.1.is_fill.most)
]
  where
    entry_most : (e : Entry) → IsEntry e → fill_of e ≤ 512
    entry_most Free h = omega arith
    entry_most (Used ty g fill first pages) h = h.1.most

in_use-moved : (s : Placement) (name old : ℕ) (to : Option ℕ) → AreInUse s → AreInUse (with_move s name old to)
in_use-moved s name old to h types.Cons page e = h types.Cons page e
in_use-moved s name old to h types.Boxed page e = h types.Boxed page e
in_use-moved s name old to h types.Unboxed page e = h types.Unboxed page e

-- filling pages adds no move
using-moves : (s : Placement) (ty : PageType) (page : ℕ) → (using_page s ty page).moves ≡ s.moves
using-moves s types.Cons page = refl
using-moves s types.Boxed page = refl
using-moves s types.Unboxed page = refl

pub filled-moves : (s : Placement) (ty : PageType) (size index : ℕ) → (filled s ty size (Some index)).moves ≡ s.moves
filled-moves s ty size index = elim (cases_Bool (is_small size)) [
  | inl small ↦ rw small (using-moves _ ty (index / page_words))
  | inr large ↦ rw large refl
]

-- a move to an index keeps everything
placing-move : (a : NamedHeap) (s : Placement) (name index : ℕ) (o : Object) → AreEntries a.pages → IsPlacing a s → object_at a.objects name ≡ Some o →
    is_in s.moves name ≡ false → (new : Placement) → Lands s new o index → new.moves ≡ s.moves → IsPlacing a (with_move new name o.place (Some index))
placing-move a s name index o entries h e none new l same =
    let m : Placing = record { name = name; old = o.place; new = Some index } in
    let most = fills_most a s entries h in
    let here : moved_to (new.moves ++ m ∷ []) name ≡ Some index = rw same (moved_to-here s.moves m none) in
    let other : (x : ℕ) → x ≢ name → moved_to (new.moves ++ m ∷ []) x ≡ moved_to s.moves x = λ x apart. rw same (moved_to-other s.moves m x (λ eq. apart (sym eq))) in
    let stay : (x : ℕ) (q : Object) → object_at a.objects x ≡ Some q → IsPlaced new.pages (settled (moved_to s.moves x) q) =
    λ x q f. IsPlaced-step s.pages new.pages (settled (moved_to s.moves x) q) l.lengths l.steps (h.spread.placed x q f) in
    let from_new : (x : ℕ) (q : Object) → object_at a.objects x ≡ Some q → AreApart (settled (moved_to s.moves x) q) (moved_object o index) =
    λ x q f. apart_above s.pages (settled (moved_to s.moves x) q) (moved_object o index) most (h.spread.placed x q f) l.above in
    record {
      lengths = l.lengths ∙ h.lengths;
      fresh = λ page. fresh-step (entry_at a.pages page) _ _ (entries page) (h.fresh page) (l.steps page);
      in_use = in_use-moved new name o.place (Some index) l.in_use;
      spread = record {
        placed = λ x q f. elim (cases_eq x name) [
          | inl is ↦ (let is_o : q ≡ o = same_Some q o (sym f ∙ (subst (λ (y : ℕ). object_at a.objects y ≡ Some o) (sym is) e)) in
              rw (is, here, is_o) l.placed)
          | inr apart ↦ rw (other x apart) (stay x q f)
        ];
        apart = λ x y q r apart f f'. elim (cases_eq x name) [
          | inl is ↦ elim (cases_eq y name) [
            | inl is' ↦ absurd (apart (is ∙ sym is'))
            | inr out ↦ (let is_o : q ≡ o = same_Some q o (sym f ∙ (subst (λ (y : ℕ). object_at a.objects y ≡ Some o) (sym is) e)) in
                rw (is, here, is_o, other y out) (apart_swapped (settled (moved_to s.moves y) r) (moved_object o index) (from_new y r f')))
          ]
          | inr out ↦ elim (cases_eq y name) [
            | inl is' ↦ (let is_o : r ≡ o = same_Some r o (sym f' ∙ (subst (λ (y : ℕ). object_at a.objects y ≡ Some o) (sym is') e)) in
                rw (is', here, is_o, other x out) (from_new x q f))
            | inr out' ↦ rw (other x out, other y out') (h.spread.apart x y q r apart f f')
          ]
        ];
      };
      runs = λ page. IsInRun-step s.pages new.pages page l.lengths l.steps (l.runs page) (h.runs page);
      olds = rw same (All-push (IsMoveOf a) s.moves m h.olds (o, e, refl));
    }

-- a stay changes nothing
placing-stay : (a : NamedHeap) (s : Placement) (name : ℕ) (o : Object) → IsPlacing a s → object_at a.objects name ≡ Some o → is_in s.moves name ≡ false → IsPlacing a (with_move s name o.place None)
placing-stay a s name o h e none =
    let m : Placing = record { name = name; old = o.place; new = None } in
    let same : (x : ℕ) → moved_to (s.moves ++ m ∷ []) x ≡ moved_to s.moves x = λ x. elim (cases_eq name x) [
      | inl is ↦ subst (λ (y : ℕ). moved_to (s.moves ++ m ∷ []) y ≡ moved_to s.moves y) is (moved_to-here s.moves m none ∙ sym (moved_to-none s.moves name none))
      | inr apart ↦ moved_to-other s.moves m x apart
    ] in
    record {
      lengths = h.lengths;
      fresh = h.fresh;
      in_use = in_use-moved s name o.place None h.in_use;
      spread = record {
        placed = λ x q f. rw (same x) (h.spread.placed x q f);
        apart = λ x y q r apart f f'. rw (same x, same y) (h.spread.apart x y q r apart f f');
      };
      runs = h.runs;
      olds = All-push (IsMoveOf a) s.moves m h.olds (o, e, refl);
    }

-- one object
placing-next : (a : NamedHeap) (s : Placement) (name : ℕ) → AreEntries a.pages → IsPlacing a s → is_in s.moves name ≡ false →
    IsPlacing a (place_object s name (object_at a.objects name))
placing-next a s name entries h none = go (object_at a.objects name) refl
  where
    landed : (o : Object) (to : Option ℕ) → object_at a.objects name ≡ Some o → goes_to s (page_type_of (kind_of o.contents)) (words_of_object o) ≡ to →
        IsPlacing a (with_move (filled s (page_type_of (kind_of o.contents)) (words_of_object o) to) name o.place to)
    landed o None e is = placing-stay a s name o h e none
    landed o (Some index) e is =
        placing-move a s name index o entries h e none (filled s (page_type_of (kind_of o.contents)) (words_of_object o) (Some index))
        (lands s o index h.in_use is) (filled-moves s (page_type_of (kind_of o.contents)) (words_of_object o) index)

    go : (q : Option Object) → object_at a.objects name ≡ q → IsPlacing a (place_object s name q)
    go None e = h
    go (Some o) e = landed o (goes_to s (page_type_of (kind_of o.contents)) (words_of_object o)) e refl

-- the names of a list are apart from those of the moves so far, and from one another
pub record AreNew (moves : List Placing) (order : List ℕ) : Type 0 where
  pub new : (i : ℕ) → i < length order → is_in moves (get_or order i 0) ≡ false
  pub once : (i j : ℕ) → i < j → j < length order → get_or order i 0 ≢ get_or order j 0

-- the names of the moves grow by the object's, or by none
next-moves : (s : Placement) (name : ℕ) (q : Option Object) (x : ℕ) → name ≢ x → is_in s.moves x ≡ false → is_in (place_object s name q).moves x ≡ false
next-moves s name None x apart none = none
next-moves s name (Some o) x apart none =
    let to = goes_to s (page_type_of (kind_of o.contents)) (words_of_object o) in
    let m : Placing = record { name = name; old = o.place; new = to } in
    moved to m
  where
    moved : (to : Option ℕ) (m : Placing) → is_in ((filled s (page_type_of (kind_of o.contents)) (words_of_object o) to).moves ++ record m { name = name } ∷ []) x ≡ false
    moved None m = list_any-append (λ (k : Placing). k.name == x) s.moves (record m { name = name } ∷ []) ∙ or_from _ _ none (or_from _ _ (ne_eqb name x apart) refl)
    moved (Some index) m = rw (filled-moves s (page_type_of (kind_of o.contents)) (words_of_object o) index)
        (list_any-append (λ (k : Placing). k.name == x) s.moves (record m { name = name } ∷ []) ∙ or_from _ _ none (or_from _ _ (ne_eqb name x apart) refl))

AreNew-next : (s : Placement) (name : ℕ) (q : Option Object) (rest : List ℕ) → AreNew s.moves (name ∷ rest) → AreNew (place_object s name q).moves rest
AreNew-next s name q rest h = record {
  new = λ i l. next-moves s name q (get_or rest i 0) (h.once 0 (suc i) (omega arith) (omega arith)) (h.new (suc i) (omega arith));
  once = λ i j l m. h.once (suc i) (suc j) (omega arith) (omega arith);
}

-- all objects of a list of names
pub placing-all : (a : NamedHeap) (s : Placement) (order : List ℕ) → AreEntries a.pages → IsPlacing a s → AreNew s.moves order → IsPlacing a (placing_from a s order)
placing-all a s [] entries h new = h
placing-all a s (name ∷ rest) entries h new =
    placing-all a (place_object s name (object_at a.objects name)) rest entries (placing-next a s name entries h (new.new 0 (omega arith)))
    (AreNew-next s name (object_at a.objects name) rest new)

-- the start
pub placing-start : (a : NamedHeap) → ((x : ℕ) (o : Object) → object_at a.objects x ≡ Some o → IsPlaced a.pages o) →
    ((x y : ℕ) (o q : Object) → x ≢ y → object_at a.objects x ≡ Some o → object_at a.objects y ≡ Some q → AreApart o q) →
    ((page : ℕ) → IsInRun a.pages page (entry_at a.pages page)) → IsPlacing a (no_placement a.pages)
placing-start a placed apart runs = record {
  lengths = refl;
  fresh = λ page. inl refl;
  in_use = none_in_use;
  spread = record { placed = placed; apart = apart };
  runs = runs;
  olds = All-nil (IsMoveOf a);
}
  where
    none_in_use : (ty : PageType) (page : ℕ) → page_in_use (no_placement a.pages) ty ≡ Some page → (fill : ℕ) × (entry_at a.pages page ≡ Used ty scratch fill page 1) × IsFill fill
    none_in_use types.Cons page e = cc
    none_in_use types.Boxed page e = cc
    none_in_use types.Unboxed page e = cc

-- the placement of names that are apart keeps the layout
pub placement-keeps : (a : NamedHeap) (order : List ℕ) → IsSound a → ((i j : ℕ) → i < j → j < length order → get_or order i 0 ≢ get_or order j 0) →
    IsPlacing a (placement a order)
unfolding placement
placement-keeps a order sound once =
    placing-all a (no_placement a.pages) order sound.entries
    (placing-start a (λ x o e. (sound.objects x o e).placed) sound.apart sound.runs) (record { new = λ i l. refl; once = once })

-- and so all objects at their new places are as they must
pub placement-spread : (a : NamedHeap) (order : List ℕ) → IsSound a → AllPairs (λ (x y : ℕ). x ≢ y) order → IsSpread a.objects (placement a order).moves (placement a order).pages
placement-spread a order sound once = (placement-keeps a order sound (λ i j l m. once i j 0 l m)).spread
