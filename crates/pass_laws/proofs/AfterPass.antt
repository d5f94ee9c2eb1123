-- A pass keeps a heap sound.
use Rattle.std.proofs.Common.{◌≡◌, ℕ, ◌+◌, ◌-◌, ◌/◌, ◌^◌, ◌<◌, ◌≤◌, List, ◌++◌, length, get_or, map, Option, Some, None, Bool, true, false, inl, inr, refl, sym, ◌∙◌, subst, ap, arith}
use Rattle.std.proofs.lemmas.Bool.{cases_lt, cases_Bool, or_cases, and_parts, false≢true, eqb-true, ne_eqb}
use Rattle.std.proofs.lemmas.List.Elements.{All-filter, filter_passes}
use Rattle.std.proofs.lemmas.List.Filters.{length-filter_both}
use Rattle.std.proofs.lemmas.List.Kept.{AllPairs-filter}
use Rattle.std.proofs.lemmas.List.{get_or-map, length-map, get_or_past, get_or_default, get_or_append_left, get_or-append_right}
use Rattle.std.proofs.lemmas.Option.{same_Some}
use Rattle.std.specs.List.{list_any}
use Rattle.std.specs.Prelude.{All, unwrap_or, ◌&&◌, ◌||◌, not, ◌==◌, if◌then◌else◌, ◌≢◌, filter, IsSome}
use Rattle.heap_terms.specs.declared.cells.Value.{Value}
use Rattle.heap_terms.specs.declared.cells.Value.TheVariants as values
use Rattle.heap_terms.specs.declared.events.PassRecord.{PassRecord}
use Rattle.heap_terms.specs.declared.events.Placing.{Placing}
use Rattle.heap_terms.specs.declared.kinds.PageType.{PageType}
use Rattle.heap_terms.specs.declared.kinds.Weakness.{Weakness}
use Rattle.heap_terms.specs.declared.kinds.Weakness.TheVariants as weaknesses
use Rattle.heap_terms.specs.declared.pages.Entry.{Entry}
use Rattle.heap_terms.specs.declared.pages.Entry.TheVariants.{Free, Used}
use Rattle.heap_terms.specs.Generations.{has_generation, is_of}
use Rattle.heap_terms.specs.Heap.{NamedHeap, object_at, entry_at, zero_value}
use Rattle.heap_terms.specs.Layout.{page_words}
use Rattle.heap_terms.specs.Live.{is_live, AreLive, KeepsSides, Keeps}
use Rattle.heap_terms.specs.Living.{IsLiving, IsLivingOrUnbound, AreLiving, HoldsLiving, AreBelow, IsShaped}
use Rattle.heap_terms.specs.Objects.{Object, Contents, ConsOf, VectorOf, InstanceOf, ClosureOf, WordsOf, WeakTo, TableOf, kind_of, payload_of, words_of_object}
use Rattle.heap_terms.specs.OnPages.{IsFill, IsEntry, IsPlaced, IsOnPage, IsPageOfRun, AreApart, SaysOfRun, IsInRun}
use Rattle.heap_terms.specs.Passes.{IsPass, remains, moved_to, order_of, object_after, entry_after, after_pass, is_held, is_freed}
use Rattle.heap_terms.specs.Placement.{scratch, placement}
use Rattle.heap_terms.specs.Regions.{is_small, pages_needed}
use Rattle.heap_terms.specs.Sound.{IsSound, IsFinalizer}
use Rattle.heap_terms.specs.Survival.{keeps_pair, is_kept, surviving, queued_of}
use Rattle.heap_terms.specs.Layout.{size_of}
use Rattle.pass_laws.specs.Spread.{settled}
use Rattle.pass_laws.proofs.AfterPages.{IsSameSpace, IsPlaced-regenerated, surviving-kind, surviving-payload, moved_listed, new_generation, object_at-after, spread, entry_is, pages_long, freed_page, page_freed, used_after, not_freed}
use Rattle.pass_laws.proofs.Lookups.{found_at}
use Rattle.pass_laws.proofs.Sizes.{small_needs}
use Rattle.pass_laws.proofs.Spreading.{IsPlacing}

-- an object that remains, after the pass
abbrev pub object_then : NamedHeap → PassRecord → ℕ → Object → Object
object_then a r x o = record {
  generation = if o.generation == r.generation then r.target else o.generation;
  place = unwrap_or (moved_to r.moves x) o.place;
  contents = surviving (remains a r) o.contents;
}

-- what remains, from either side
pub record Remains (a : NamedHeap) (r : PassRecord) (x : ℕ) (new : Object) : Type 0 where
  pub object : Object
  pub there : object_at a.objects x ≡ Some object
  pub live : remains a r x ≡ true
  pub is : new ≡ object_then a r x object

same_space : (a : NamedHeap) (r : PassRecord) (x : ℕ) (o : Object) → IsSameSpace (settled (moved_to r.moves x) o) (object_then a r x o)
same_space a r x o = go (moved_to r.moves x)
  where
    words_same : size_of (kind_of (surviving (remains a r) o.contents)) (payload_of (surviving (remains a r) o.contents)) ≡ words_of_object o
    words_same = rw (surviving-payload (remains a r) o.contents, surviving-kind (remains a r) o.contents) refl

    go : (to : Option ℕ) → IsSameSpace (settled to o) (record (object_then a r x o) { place = unwrap_or to o.place })
    go None = record { place = refl; kind = surviving-kind (remains a r) o.contents; words = words_same }
    go (Some index) = record { place = refl; kind = surviving-kind (remains a r) o.contents; words = words_same }

-- a pair that is kept has both its sides live, where the pairs keep what their weakness says
sides_live : (w : Weakness) (k v : Bool) → KeepsSides w k v → keeps_pair w k v ≡ true → (k ≡ true) × (v ≡ true)
sides_live weaknesses.Strong k v h e = h
sides_live weaknesses.Key k v h e = (e, h e)
sides_live weaknesses.Value k v h e = (h e, e)
sides_live weaknesses.KeyAndValue k v h e = and_parts k v e
sides_live weaknesses.KeyOrValue k v h e = elim (or_cases k v e) [
  | inl key ↦ (key, h.0 key)
  | inr value ↦ (h.1 value, value)
]

-- a filter keeps at most all
filter_most : {X : Type 0} (p : X → Bool) (xs : List X) → length (filter p xs) ≤ length xs
filter_most p xs = (let both = length-filter_both p (λ x. not (p x)) (λ x. refl) xs in omega arith)

-- what remains of an object has the shape of its kind
pub IsShaped-surviving : (live : ℕ → Bool) (k : Contents) → IsShaped k → IsShaped (surviving live k)
IsShaped-surviving live (ConsOf a b) h = h
IsShaped-surviving live (VectorOf vs) h = h
IsShaped-surviving live (InstanceOf vs) h = h
IsShaped-surviving live (ClosureOf vs) h = h
IsShaped-surviving live (WordsOf ws) h = h
IsShaped-surviving live (WeakTo v) h = tt
IsShaped-surviving live (TableOf w b pairs) h =
    (h.0, h.1, (let most = filter_most (is_kept live w) pairs in let room = h.2 in omega arith), AllPairs-filter (λ (x y : Value × Value). x.0 ≢ y.0) (is_kept live w) pairs h.3)

-- both sides of a pair are living
abbrev PairLiving : List (Option Object) → Value × Value → Type 0
PairLiving objects pair = IsLiving objects pair.0 × IsLiving objects pair.1

zero_living : (objects : List (Option Object)) → IsLiving objects zero_value
zero_living objects = omega arith

pairs_from : (objects : List (Option Object)) (pairs : List (Value × Value)) → AreLiving objects (map (λ pair. pair.0) pairs) → AreLiving objects (map (λ pair. pair.1) pairs) →
    All (PairLiving objects) pairs
pairs_from objects pairs keys vals k d l = (
  subst (IsLiving objects) (get_or-map (λ (pair : Value × Value). pair.0) pairs k d zero_value l) (keys k),
  subst (IsLiving objects) (get_or-map (λ (pair : Value × Value). pair.1) pairs k d zero_value l) (vals k),
)

from_pairs : (objects : List (Option Object)) (pairs : List (Value × Value)) → All (PairLiving objects) pairs →
    AreLiving objects (map (λ pair. pair.0) pairs) × AreLiving objects (map (λ pair. pair.1) pairs)
from_pairs objects pairs all = (λ i. side (λ pair. pair.0) (λ d l. (all i d l).0) i, λ i. side (λ pair. pair.1) (λ d l. (all i d l).1) i)
  where
    side : (f : Value × Value → Value) {i : ℕ} → ((d : Value × Value) → i < length pairs → IsLiving objects (f (get_or pairs i d))) → (j : ℕ) → IsLiving objects (get_or (map f pairs) i zero_value)
    side f {i = i} h j = elim (cases_lt i (length pairs)) [
      | inl l ↦ rw (get_or-map f pairs i (zero_value, zero_value) zero_value l) (h (zero_value, zero_value) l)
      | inr l ↦ rw (get_or_past (map f pairs) i zero_value (let same = length-map pairs f in omega arith)) (zero_living objects)
    ]

-- pages that the pass took have the target
scratch_raised : (b : Bool) (x y : ℕ) → (if b || true then x else y) ≡ x
scratch_raised true x y = refl
scratch_raised false x y = refl

-- the pages of an object say where its run begins
run_start : (pages : List Entry) (q : Object) (i : ℕ) → i < pages_needed (words_of_object q) → (ty : PageType) (fill first k : ℕ) → IsPlaced pages q →
    entry_at pages (q.place / page_words + i) ≡ Used ty q.generation fill first k → first ≡ q.place / page_words
run_start pages q i l ty fill first k h e = elim (cases_Bool (is_small (words_of_object q))) [
  | inl small ↦ (let one = small_needs (words_of_object q) small in
      let here : q.place / page_words + i ≡ q.place / page_words = omega arith in
      let e' : entry_at pages (q.place / page_words) ≡ Used ty q.generation fill first k = subst (λ (p : ℕ). entry_at pages p ≡ Used ty q.generation fill first k) here e in
      (subst (λ (x : Entry). IsOnPage q x) e' (h.small small)).2)
  | inr large ↦ (subst (λ (x : Entry). IsPageOfRun q i x) e (h.large large i l)).2
]

-- objects in the same space as objects that lie apart
moved_apart : (o q new other : Object) → IsSameSpace o new → IsSameSpace q other → AreApart o q → AreApart new other
moved_apart o q new other one two (inl before) = inl (rw (one.place, one.words, two.place) before)
moved_apart o q new other one two (inr behind) = inr (rw (two.place, two.words, one.place) behind)

IsEntry-after : (r : PassRecord) → r.target ≤ 6 → (page : ℕ) (e : Entry) → IsEntry e → IsEntry (entry_after r page e)
IsEntry-after r high page Free h = tt
IsEntry-after r high page (Used ty g fill first k) h = by_freed (list_any (λ freed. freed == page) r.freed)
  where
    by_target : (b : Bool) → (if b then r.target else g) ≤ 6
    by_target true = high
    by_target false = h.0

    by_freed : (b : Bool) → IsEntry (if b then Free else Used ty (new_generation r g) fill first k)
    by_freed true = tt
    by_freed false = (by_target (g == r.generation || g == scratch), h.1)

-- two pages of a run are freed together
says_freed : (r : PassRecord) (ty : PageType) (old first k fill : ℕ) (mate : Entry) → SaysOfRun ty old first k mate → is_freed r mate ≡ true → is_freed r (Used ty old fill first k) ≡ true
says_freed r ty old first k fill Free says freed = absurd says
says_freed r ty old first k fill (Used other n more start m) says freed =
    (let freed' : (n == r.generation && not (is_held r start)) ≡ true = freed in rw (says.1, says.2) at freed')

AreBelow-append : (n : ℕ) (xs ys : List ℕ) → AreBelow n xs → AreBelow n ys → AreBelow n (xs ++ ys)
AreBelow-append n xs ys one two i = elim (cases_lt i (length xs)) [
  | inl l ↦ rw (get_or_append_left xs ys 0 i l) (one i)
  | inr l ↦ rw (get_or-append_right xs ys (length xs) i 0 refl l) (two (i - length xs))
]

AreBelow-map : (n : ℕ) (entries : List (ℕ × ℕ)) → ((k : ℕ) (d : ℕ × ℕ) → k < length entries → (get_or entries k d).1 < 2 ^ 32) → n ≡ 2 ^ 32 → AreBelow n (map (λ entry. entry.1) entries)
AreBelow-map n entries h is i = elim (cases_lt i (length entries)) [
  | inl l ↦ rw (get_or-map (λ (entry : ℕ × ℕ). entry.1) entries i (0, 0) 0 l, is) (h i (0, 0) l)
  | inr l ↦ rw (get_or_past (map (λ (entry : ℕ × ℕ). entry.1) entries) i 0 (let same = length-map entries (λ (entry : ℕ × ℕ). entry.1) in omega arith), is) (omega arith)
]

module _ (a : NamedHeap) (g h : ℕ) (r : PassRecord) (sound : IsSound a) (pass : IsPass a g h r) where
  pub remaining : (x : ℕ) (new : Object) → object_at (after_pass a r).objects x ≡ Some new → Remains a r x new
  remaining x new e = go (object_at a.objects x) refl (sym (object_at-after a r x) ∙ e)
    where
      go : (q : Option Object) → object_at a.objects x ≡ q → object_after a r x q ≡ Some new → Remains a r x new
      go None at e = cc
      go (Some o) at e = elim (cases_Bool (remains a r x)) [
        | inl live ↦ (let is : Some (object_then a r x o) ≡ Some new = rw live at e in
            record { object = o; there = at; live = live; is = sym (same_Some (object_then a r x o) new is) })
        | inr dead ↦ (let none : None ≡ Some new = rw dead at e in cc)
      ]

  pub remains_after : (x : ℕ) (o : Object) → object_at a.objects x ≡ Some o → remains a r x ≡ true → object_at (after_pass a r).objects x ≡ Some (object_then a r x o)
  remains_after x o at live = object_at-after a r x ∙ ap (object_after a r x) at ∙ rw live refl

  -- a live value that was living is living after the pass
  pub living_after : (v : Value) → IsLiving a.objects v → is_live (remains a r) v ≡ true → IsLiving (after_pass a r).objects v
  living_after (values.Fix n) living live = living
  living_after values.Nil living live = tt
  living_after values.Unbound living live = living
  living_after (values.Ref x) living live = go (object_at a.objects x) refl living
    where
      go : (q : Option Object) → object_at a.objects x ≡ q → IsSome q → IsSome (object_at (after_pass a r).objects x)
      go None at some = absurd (false≢true some)
      go (Some o) at some = rw (remains_after x o at live) refl

  pub list_living_after : (vs : List Value) → AreLiving a.objects vs → AreLive (remains a r) vs → AreLiving (after_pass a r).objects vs
  list_living_after vs living live i = living_after (get_or vs i zero_value) (living i) (live i)

  -- and what remains holds living values
  holds_after : (k : Contents) → HoldsLiving a.objects k → Keeps (remains a r) k → HoldsLiving (after_pass a r).objects (surviving (remains a r) k)
  holds_after (ConsOf x y) holds keeps = (living_after x holds.0 keeps.0, living_after y holds.1 keeps.1)
  holds_after (VectorOf vs) holds keeps = list_living_after vs holds keeps
  holds_after (InstanceOf vs) holds keeps = list_living_after vs holds keeps
  holds_after (ClosureOf vs) holds keeps = list_living_after vs holds keeps
  holds_after (WordsOf ws) holds keeps = tt
  holds_after (WeakTo v) holds keeps = elim (cases_Bool (is_live (remains a r) v)) [
    | inl live ↦ rw live (or_unbound v holds live)
    | inr dead ↦ rw dead tt
  ]
    where
      or_unbound : (v : Value) → IsLivingOrUnbound a.objects v → is_live (remains a r) v ≡ true → IsLivingOrUnbound (after_pass a r).objects v
      or_unbound (values.Fix n) holds live = holds
      or_unbound values.Nil holds live = tt
      or_unbound values.Unbound holds live = tt
      or_unbound (values.Ref x) holds live = living_after (values.Ref x) holds live
  holds_after (TableOf w b pairs) holds keeps =
      let live = remains a r in
      let kept = All-filter (is_kept live w) (λ pair. PairLiving a.objects pair × KeepsSides w (is_live live pair.0) (is_live live pair.1)) pairs
      (λ k d l. (
        pairs_from a.objects pairs holds.0 holds.1 k d l,
        subst (λ (pair : Value × Value). KeepsSides w (is_live live pair.0) (is_live live pair.1)) (get_or_default pairs k (zero_value, zero_value) d l) (keeps k),
      )) in
      from_pairs (after_pass a r).objects (filter (is_kept live w) pairs) (λ k d l.
      (let both = kept k d l in
      let pair = get_or (filter (is_kept live w) pairs) k d in
      let sides = sides_live w (is_live live pair.0) (is_live live pair.1) both.1 (filter_passes (is_kept live w) pairs k d l) in
      (living_after pair.0 both.0.0 sides.0, living_after pair.1 both.0.1 sides.1)))

  -- the generation of a page on which something remains
  generation_then : (x : ℕ) (o : Object) → object_at a.objects x ≡ Some o → new_generation r (settled (moved_to r.moves x) o).generation ≡ (object_then a r x o).generation
  generation_then x o at = go (moved_to r.moves x) refl
    where
      bound : o.generation ≤ 6
      bound = (sound.objects x o at).generation

      no_scratch : (o.generation == scratch) ≡ false
      no_scratch = ne_eqb o.generation scratch (λ same. omega (arith, same, bound))

      go : (to : Option ℕ) → moved_to r.moves x ≡ to → new_generation r (settled to o).generation ≡ (object_then a r x o).generation
      go None to_is = elim (cases_Bool (o.generation == r.generation)) [
        | inl young ↦ rw young refl
        | inr other ↦ rw (other, no_scratch) refl
      ]
      go (Some index) to_is =
          let found = found_at (λ (m : Placing). m.name == x) r.moves (moved_listed r.moves x index to_is) in
          let d : Placing = record { name = 0; old = 0; new = None } in
          let of = (pass.movable found.0 d found.1).0 in
          let of' : has_generation g (object_at a.objects x) ≡ true = subst (λ (y : ℕ). is_of a g y ≡ true) (eqb-true _ x (found.2 d)) of in
          let of'' : (o.generation == g) ≡ true = rw at at of' in
          let young : (o.generation == r.generation) ≡ true = rw pass.generation of'' in
          rw young (scratch_raised (scratch == r.generation) r.target scratch)

  -- what remains lies as it must
  placed_after : (x : ℕ) (o : Object) → object_at a.objects x ≡ Some o → remains a r x ≡ true → IsPlaced (after_pass a r).pages (object_then a r x o)
  placed_after x o at live =
      let s = placement a (order_of r) in
      let to = moved_to r.moves x in
      let q = settled to o in
      let keeps = spread a g h r sound pass in
      let placed : IsPlaced s.pages q = subst (λ (ms : List Placing). IsPlaced s.pages (settled (moved_to ms x) o)) (sym pass.placed) (keeps.spread.placed x o at) in
      IsPlaced-regenerated s.pages (after_pass a r).pages q (object_then a r x o) (pages_long a g h r sound pass ∙ sym keeps.lengths) (same_space a r x o)
      (λ i l ty fill first k e. first_is i l ty fill first k placed e)
      placed
    where
      first_is : (i : ℕ) → i < pages_needed (words_of_object (settled (moved_to r.moves x) o)) → (ty : PageType) (fill first k : ℕ) →
          IsPlaced (placement a (order_of r)).pages (settled (moved_to r.moves x) o) →
          entry_at (placement a (order_of r)).pages ((settled (moved_to r.moves x) o).place / page_words + i) ≡ Used ty (settled (moved_to r.moves x) o).generation fill first k →
          entry_at (after_pass a r).pages ((settled (moved_to r.moves x) o).place / page_words + i) ≡ Used ty (object_then a r x o).generation fill first k
      first_is i l ty fill first k placed e =
          let q = settled (moved_to r.moves x) o in
          let page = q.place / page_words + i in
          let first_at : first ≡ q.place / page_words = run_start (placement a (order_of r)).pages q i l ty fill first k placed e in
          let kept = not_freed a g h r sound pass x o at live page ty fill k (moved_to r.moves x) refl (subst (λ (n : ℕ). entry_at (placement a (order_of r)).pages page ≡ Used ty q.generation fill n k) first_at e) in
          used_after a g h r sound pass page ty q.generation fill first k e kept ∙ ap (λ (n : ℕ). Used ty n fill first k) (generation_then x o at)

  -- and apart from what else remains
  apart_after : (x y : ℕ) (o q : Object) → x ≢ y → object_at (after_pass a r).objects x ≡ Some o → object_at (after_pass a r).objects y ≡ Some q → AreApart o q
  apart_after x y o q apart e f =
      let left = remaining x o e in
      let right = remaining y q f in
      let keeps = spread a g h r sound pass in
      let before : AreApart (settled (moved_to r.moves x) left.object) (settled (moved_to r.moves y) right.object) =
      subst (λ (ms : List Placing). AreApart (settled (moved_to ms x) left.object) (settled (moved_to ms y) right.object)) (sym pass.placed)
      (keeps.spread.apart x y left.object right.object apart left.there right.there) in
      let one = same_space a r x left.object in
      let two = same_space a r y right.object in
      rw (left.is, right.is) (moved_apart _ _ (object_then a r x left.object) (object_then a r y right.object) one two before)

  -- pages in use are of a generation, filled as they may, and in their runs
  entry_after_is : (high : r.target ≤ 6) (page : ℕ) → IsEntry (entry_at (after_pass a r).pages page)
  entry_after_is high page = rw (entry_is a g h r sound pass page) (elim (keeps.fresh page) [
    | inl same ↦ rw same (IsEntry-after r high page (entry_at a.pages page) (sound.entries page))
    | inr taken ↦ rw taken.1.entry (taken_after (list_any (λ freed. freed == page) r.freed) taken.1.ty taken.1.fill taken.1.first taken.1.count taken.1.is_fill)
  ])
    where
      keeps : IsPlacing a (placement a (order_of r))
      keeps = spread a g h r sound pass

      taken_after : (b : Bool) (ty : PageType) (fill first k : ℕ) → IsFill fill → IsEntry (if b then Free else Used ty (new_generation r scratch) fill first k)
      taken_after true ty fill first k is_fill = tt
      taken_after false ty fill first k is_fill = (rw (scratch_raised (scratch == r.generation) r.target scratch) high, is_fill)

  -- a page that is freed is freed with its run
  freed_mate : (page mate : ℕ) (ty : PageType) (old fill first k : ℕ) → entry_at (placement a (order_of r)).pages page ≡ Used ty old fill first k →
      SaysOfRun ty old first k (entry_at (placement a (order_of r)).pages mate) →
      list_any (λ freed. freed == page) r.freed ≡ false → list_any (λ freed. freed == mate) r.freed ≡ false
  freed_mate page mate ty old fill first k e says kept = elim (cases_Bool (list_any (λ freed. freed == mate) r.freed)) [
    | inr fine ↦ fine
    | inl freed ↦ elim (keeps.fresh mate) [
      | inr taken ↦ (let never : false ≡ true = rw taken.0 at (freed_page a g h r sound pass mate freed) in absurd (false≢true never))
      | inl same ↦ elim (keeps.fresh page) [
        | inl same' ↦ (let was : entry_at a.pages page ≡ Used ty old fill first k = sym same' ∙ e in
            let says' : SaysOfRun ty old first k (entry_at a.pages mate) = subst (λ (x : Entry). SaysOfRun ty old first k x) same says in
            let together = says_freed r ty old first k fill (entry_at a.pages mate) says' (freed_page a g h r sound pass mate freed) in
            let here = page_freed a g h r sound pass page (rw was together) in absurd (false≢true (sym kept ∙ here)))
        | inr taken ↦ (let both : Used ty old fill first k ≡ Used taken.1.ty scratch taken.1.fill taken.1.first taken.1.count = sym e ∙ taken.1.entry in
            let high : old ≡ scratch = cc in
            let says' : SaysOfRun ty old first k (entry_at a.pages mate) = subst (λ (x : Entry). SaysOfRun ty old first k x) same says in
            absurd (no_scratch ty first k (entry_at a.pages mate) (sound.entries mate) (subst (λ (n : ℕ). SaysOfRun ty n first k (entry_at a.pages mate)) high says')))
      ]
    ]
  ]
    where
      keeps : IsPlacing a (placement a (order_of r))
      keeps = spread a g h r sound pass

      no_scratch : (ty : PageType) (first k : ℕ) (x : Entry) → IsEntry x → SaysOfRun ty scratch first k x → ⊥
      no_scratch ty first k Free is says = says
      no_scratch ty first k (Used other n fill start m) is says = (let bound = is.0 in let same = says.1 in omega arith)

  runs_after : (page : ℕ) → IsInRun (after_pass a r).pages page (entry_at (after_pass a r).pages page)
  runs_after page = go (entry_at (placement a (order_of r)).pages page) refl (keeps.runs page)
    where
      keeps : IsPlacing a (placement a (order_of r))
      keeps = spread a g h r sound pass

      go : (e : Entry) → entry_at (placement a (order_of r)).pages page ≡ e → IsInRun (placement a (order_of r)).pages page e →
          IsInRun (after_pass a r).pages page (entry_at (after_pass a r).pages page)
      go Free at run = rw (entry_is a g h r sound pass page, at) tt
      go (Used ty old fill first k) at run = elim (cases_Bool (list_any (λ freed. freed == page) r.freed)) [
        | inl freed ↦ rw (entry_is a g h r sound pass page, at, freed) tt
        | inr kept ↦ rw (used_after a g h r sound pass page ty old fill first k at kept) (
          run.0,
          run.1,
          rw (pages_long a g h r sound pass ∙ sym keeps.lengths) run.2,
          λ i l. mate (first + i) (entry_at (placement a (order_of r)).pages (first + i)) refl (run.3 i l)
              (freed_mate page (first + i) ty old fill first k at (run.3 i l) kept),
        )
      ]
        where
          mate : (p : ℕ) (e : Entry) → entry_at (placement a (order_of r)).pages p ≡ e → SaysOfRun ty old first k e → list_any (λ freed. freed == p) r.freed ≡ false →
              SaysOfRun ty (new_generation r old) first k (entry_at (after_pass a r).pages p)
          mate p Free at says fine = absurd says
          mate p (Used other n more start m) at says fine = rw (used_after a g h r sound pass p other n more start m at fine)
              (says.0, ap (new_generation r) says.1, says.2, says.3)

  -- finalizers that stay are of objects that remain
  finalizers_after : All (IsFinalizer (after_pass a r).objects) (after_pass a r).finalizers
  unfolding after_pass
  finalizers_after k d l =
      let live : ℕ × ℕ → Bool = λ entry. remains a r entry.0 in
      let was = All-filter live (IsFinalizer a.objects) a.finalizers sound.finalizers k d l in
      let passes = filter_passes live a.finalizers k d l in
      record { there = there_after (get_or (filter live a.finalizers) k d).0 was.there passes; id = was.id }
    where
      there_after : (x : ℕ) → IsSome (object_at a.objects x) → remains a r x ≡ true → IsSome (object_at (after_pass a r).objects x)
      there_after x some live = living_after (values.Ref x) some live

  queue_after : AreBelow (2 ^ 32) (after_pass a r).queue
  unfolding after_pass
  queue_after = AreBelow-append (2 ^ 32) a.queue (queued_of a (remains a r)) sound.queue
      (AreBelow-map (2 ^ 32) (filter (λ entry. not (remains a r entry.0)) a.finalizers)
      (λ k d l. (All-filter (λ entry. not (remains a r entry.0)) (IsFinalizer a.objects) a.finalizers sound.finalizers k d l).id) refl)

  -- so the heap after a pass is sound
  pub pass_sound : r.target ≤ 6 → IsSound (after_pass a r)
  pass_sound high = record {
    objects = λ x new e. (let was = remaining x new e in
        let old = sound.objects x was.object was.there in
        rw was.is (record {
          generation = by_target (was.object.generation == r.generation) old.generation;
          shape = IsShaped-surviving (remains a r) was.object.contents old.shape;
          contents = holds_after was.object.contents old.contents (pass.live.closed.members x was.object was.there was.live);
          placed = placed_after x was.object was.there was.live;
        }));
    apart = apart_after;
    entries = entry_after_is high;
    runs = runs_after;
    finalizers = finalizers_after;
    queue = queue_after;
  }
    where
      by_target : (b : Bool) {n : ℕ} → n ≤ 6 → (if b then r.target else n) ≤ 6
      by_target true bound = high
      by_target false bound = bound
