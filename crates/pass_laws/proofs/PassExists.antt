-- A pass exists over every generation of a well-formed heap.
use Rattle.std.proofs.Common.{◌≡◌, ℕ, suc, ◌<◌, List, [], ◌∷◌, ◌++◌, length, get_or, map, Option, Some, None, Bool, true, false, inl, inr, refl, sym, ◌∙◌, subst, ap, arith}
use Rattle.std.proofs.lemmas.Bool.{cases_Bool, or_cases, or_left, or_right, and_parts, and_from, false≢true, eq-eqb, eqb-true, not-true, not_from_false}
use Rattle.std.proofs.lemmas.List.Elements.{filter_passes}
use Rattle.std.proofs.lemmas.List.FromFn.{get_or-range_with_len, length-range_with_len}
use Rattle.std.proofs.lemmas.List.Kept.{AllPairs-filter}
use Rattle.std.proofs.lemmas.List.{get_or-map, length-map, map_push, append_assoc, append-nil}
use Rattle.std.specs.List.{list_any, range_with_len}
use Rattle.std.specs.Prelude.{AllPairs, filter, ◌&&◌, ◌||◌, not, ◌==◌, ◌≢◌, IsSome}
use Rattle.heap_terms.specs.declared.events.PassRecord.{PassRecord}
use Rattle.heap_terms.specs.declared.events.PinAt.{PinAt}
use Rattle.heap_terms.specs.declared.events.Placing.{Placing}
use Rattle.heap_terms.specs.declared.programs.Program.{Program}
use Rattle.heap_terms.specs.Generations.{is_of, names}
use Rattle.heap_terms.specs.Heap.{NamedHeap, object_at}
use Rattle.heap_terms.specs.Layout.{page_type_of}
use Rattle.heap_terms.specs.Live.{AreLiveNames}
use Rattle.heap_terms.specs.Objects.{Object, kind_of, words_of_object}
use Rattle.heap_terms.specs.Passes.{IsPass, is_listed_move, is_listed_pin, remains, remains_at, freed_of, dead_of, kept_of}
use Rattle.heap_terms.specs.Placement.{Placement, no_placement, goes_to, filled, with_move, place_object, placing_from, placement}
use Rattle.heap_terms.specs.Roots.{is_hit, is_pinned}
use Rattle.heap_terms.specs.Survival.{culls_of, breaks_of, queued_of}
use Rattle.heap_terms.specs.WellFormed.{IsWellFormed}
use Rattle.pass_laws.proofs.LiveNames.{object_below}
use Rattle.pass_laws.proofs.LiveThere.{live_there, live_exist}
use Rattle.pass_laws.proofs.Lookups.{found_at, in_filter, filter_in}
use Rattle.pass_laws.proofs.PinLists.{pins_of, pins_are}
use Rattle.pass_laws.proofs.Spreading.{filled-moves}

-- the name of a move
abbrev move_name : Placing → ℕ
move_name m = m.name

-- a placement lists the names that it is given, where they are there
placing-names : (a : NamedHeap) (s : Placement) (order : List ℕ) → ((i : ℕ) → i < length order → IsSome (object_at a.objects (get_or order i 0))) →
    map move_name (placing_from a s order).moves ≡ map move_name s.moves ++ order
placing-names a s [] there = sym (append-nil (map move_name s.moves))
placing-names a s (name ∷ rest) there =
    placing-names a (place_object s name (object_at a.objects name)) rest (λ i l. there (suc i) (omega arith))
    ∙ ap (λ (xs : List ℕ). xs ++ rest) (go (object_at a.objects name) (there 0 (omega arith)))
    ∙ append_assoc (map move_name s.moves) (name ∷ []) rest
  where
    landed : (o : Object) (to : Option ℕ) → map move_name (with_move (filled s (page_type_of (kind_of o.contents)) (words_of_object o) to) name o.place to).moves ≡ map move_name s.moves ++ name ∷ []
    landed o None = map_push move_name s.moves (record { name = name; old = o.place; new = None })
    landed o (Some index) = rw (filled-moves s (page_type_of (kind_of o.contents)) (words_of_object o) index)
        (map_push move_name s.moves (record { name = name; old = o.place; new = Some index }))

    go : (q : Option Object) → IsSome q → map move_name (place_object s name q).moves ≡ map move_name s.moves ++ name ∷ []
    go None some = absurd (false≢true some)
    go (Some o) some = landed o (goes_to s (page_type_of (kind_of o.contents)) (words_of_object o))

pub placement-names : (a : NamedHeap) (order : List ℕ) → ((i : ℕ) → i < length order → IsSome (object_at a.objects (get_or order i 0))) →
    map move_name (placement a order).moves ≡ order
unfolding placement
placement-names a order there = placing-names a (no_placement a.pages) order there

any-map : {X : Type 0} (p : ℕ → Bool) (f : X → ℕ) (xs : List X) → list_any (λ x. p (f x)) xs ≡ list_any p (map f xs)
any-map p f [] = refl
any-map p f (x ∷ xs) = ap (λ (b : Bool). p (f x) || b) (any-map p f xs)

-- the names of a range are apart
range-once : (from n : ℕ) → AllPairs (λ (x y : ℕ). x ≢ y) (range_with_len from n)
range-once from n i j d l m = (let long = length-range_with_len from n in
    rw (get_or-range_with_len from n i d (omega arith), get_or-range_with_len from n j d (omega arith)) (λ same. omega arith))

-- what has to be moved, in one order: the live names of the generation that are not pinned
to_move : NamedHeap → ℕ → (ℕ → Bool) → ℕ → Bool
to_move a g live x = is_of a g x && (live x && not (is_pinned a g x))

to_move-live : (a : NamedHeap) (g : ℕ) (live : ℕ → Bool) (x : ℕ) → to_move a g live x ≡ true → live x ≡ true
unfolding to_move
to_move-live a g live x t = (and_parts _ _ (and_parts _ _ t).1).0

to_move-parts : (a : NamedHeap) (g : ℕ) (live : ℕ → Bool) (x : ℕ) → to_move a g live x ≡ true → (is_of a g x ≡ true) × (is_pinned a g x ≡ false)
unfolding to_move
to_move-parts a g live x t = ((and_parts _ _ t).0, not-true (is_pinned a g x) (and_parts _ _ (and_parts _ _ t).1).1)

to_move-from : (a : NamedHeap) (g : ℕ) (live : ℕ → Bool) (x : ℕ) → is_of a g x ≡ true → live x ≡ true → is_pinned a g x ≡ false → to_move a g live x ≡ true
unfolding to_move
to_move-from a g live x young alive free = and_from (is_of a g x) _ young (and_from (live x) _ alive (not_from_false (is_pinned a g x) free))

order_for : NamedHeap → ℕ → (ℕ → Bool) → List ℕ
order_for a g live = filter (to_move a g live) (names a)

order_pass : (a : NamedHeap) (g : ℕ) (live : ℕ → Bool) (k : ℕ) → k < length (order_for a g live) → to_move a g live (get_or (order_for a g live) k 0) ≡ true
unfolding order_for
order_pass a g live k l = filter_passes (to_move a g live) (names a) k 0 l

order_once : (a : NamedHeap) (g : ℕ) (live : ℕ → Bool) → AllPairs (λ (x y : ℕ). x ≢ y) (order_for a g live)
unfolding order_for
order_once a g live = AllPairs-filter (λ (x y : ℕ). x ≢ y) (to_move a g live) (names a) (range-once 0 (length a.objects))

-- the record of a pass, but for what follows from its moves and pins
bare_record : NamedHeap → ℕ → ℕ → (ℕ → Bool) → PassRecord
bare_record a g h live = record {
  generation = g;
  target = h;
  moves = (placement a (order_for a g live)).moves;
  pins = pins_of a g;
  culls = [];
  breaks = [];
  queued = [];
  freed = [];
  dead = 0;
  kept = 0;
}

-- the record with all that follows
abbrev pub whole_record : NamedHeap → PassRecord → PassRecord
whole_record a r = record r {
  culls = culls_of a (remains a r);
  breaks = breaks_of a (remains a r);
  queued = queued_of a (remains a r);
  freed = freed_of a r;
  dead = dead_of a r;
  kept = kept_of a r;
}

module _ (p : Program) (a : NamedHeap) (g h : ℕ) (w : IsWellFormed p a) (live : ℕ → Bool) (are : AreLiveNames a g live) where
  order_there : (i : ℕ) → i < length (order_for a g live) → IsSome (object_at a.objects (get_or (order_for a g live) i 0))
  unfolding order_for to_move
  order_there i l = live_there p a g live w are _ (and_parts _ _ (and_parts _ _ (filter_passes (to_move a g live) (names a) i 0 l)).1).0

  names_are : map move_name (bare_record a g h live).moves ≡ order_for a g live
  unfolding bare_record
  names_are = placement-names a (order_for a g live) order_there

  listed_is : (x : ℕ) → is_listed_move (bare_record a g h live) x ≡ list_any (λ y. y == x) (order_for a g live)
  listed_is x = any-map (λ y. y == x) move_name (bare_record a g h live).moves ∙ ap (list_any (λ y. y == x)) names_are

  moved_live : (x : ℕ) → is_listed_move (bare_record a g h live) x ≡ true → to_move a g live x ≡ true
  unfolding order_for
  moved_live x e = (in_filter (to_move a g live) 0 (length a.objects) x (sym (listed_is x) ∙ e)).0

  live_moved : (x : ℕ) → to_move a g live x ≡ true → x < length a.objects → is_listed_move (bare_record a g h live) x ≡ true
  unfolding order_for
  live_moved x e l = listed_is x ∙ filter_in (to_move a g live) 0 (length a.objects) x e (omega arith) (omega arith)

  pinned_live : (x : ℕ) → is_listed_pin (bare_record a g h live) x ≡ true → is_pinned a g x ≡ true
  unfolding bare_record
  pinned_live x e =
      let found = found_at (λ (q : PinAt). q.name == x) (pins_of a g) e in
      let d : PinAt = record { name = 0; index = 0 } in
      let at = (pins_are a w.sound g).pinned found.0 d found.1 in
      subst (λ (y : ℕ). is_pinned a g y ≡ true) (eqb-true _ x (found.2 d)) at.3

  generation_is : (bare_record a g h live).generation ≡ g
  unfolding bare_record
  generation_is = refl

  pins_is : (bare_record a g h live).pins ≡ pins_of a g
  unfolding bare_record
  pins_is = refl

  -- what remains by the record is what is live
  remains_live : (x : ℕ) → remains a (bare_record a g h live) x ≡ true → live x ≡ true
  remains_live x e = go (object_at a.objects x) refl e
    where
      go : (q : Option Object) → object_at a.objects x ≡ q → remains_at (bare_record a g h live) x q ≡ true → live x ≡ true
      go None at f = absurd (false≢true f)
      go (Some o) at f = elim (or_cases (not (o.generation == (bare_record a g h live).generation)) _ f) [
        | inl other ↦ are.closed.others x o at (λ same. false≢true (sym (not-true _ other) ∙ eq-eqb o.generation (bare_record a g h live).generation (same ∙ sym generation_is)))
        | inr listed ↦ elim (or_cases (is_listed_move (bare_record a g h live) x) _ listed) [
          | inl moved ↦ to_move-live a g live x (moved_live x moved)
          | inr pinned ↦ are.closed.hit x (and_parts (is_of a g x) (is_hit a x) (pinned_live x pinned)).1
        ]
      ]

  live_remains : (x : ℕ) → live x ≡ true → remains a (bare_record a g h live) x ≡ true
  live_remains x e = go (object_at a.objects x) refl (live_there p a g live w are x e)
    where
      go : (q : Option Object) → object_at a.objects x ≡ q → IsSome q → remains_at (bare_record a g h live) x q ≡ true
      go None at some = absurd (false≢true some)
      go (Some o) at some = elim (cases_Bool (o.generation == (bare_record a g h live).generation)) [
        | inr other ↦ or_left _ _ (not_from_false _ other)
        | inl young ↦ elim (cases_Bool (is_pinned a g x)) [
          | inl pinned ↦ or_right (not (o.generation == (bare_record a g h live).generation)) _ (or_right (is_listed_move (bare_record a g h live) x) _
              (subst (λ (ps : List PinAt). list_any (λ (q : PinAt). q.name == x) ps ≡ true) (sym pins_is) ((pins_are a w.sound g).all x pinned)))
          | inr free ↦ or_right (not (o.generation == (bare_record a g h live).generation)) _ (or_left _ _ (live_moved x (to_move-from a g live x (rw at (rw generation_is at young)) e free) (object_below a.objects x o at)))
        ]
      ]

  same_live : (x : ℕ) → remains a (bare_record a g h live) x ≡ live x
  same_live x = elim (cases_Bool (live x)) [
    | inl here ↦ live_remains x here ∙ sym here
    | inr gone ↦ elim (cases_Bool (remains a (bare_record a g h live) x)) [
      | inl never ↦ absurd (false≢true (sym gone ∙ remains_live x never))
      | inr none ↦ none ∙ sym gone
    ]
  ]

  are_live : AreLiveNames a g (remains a (bare_record a g h live))
  are_live = subst (λ (set : ℕ → Bool). AreLiveNames a g set) (λ i x. sym (same_live x) i) are

  -- each name that is moved, and its move
  move_at : (k : ℕ) (d : Placing) → k < length (bare_record a g h live).moves → to_move a g live (get_or (bare_record a g h live).moves k d).name ≡ true
  move_at k d l =
      let ms = (bare_record a g h live).moves in
      let long : length (order_for a g live) ≡ length ms = ap length (sym names_are) ∙ length-map ms move_name in
      let same : get_or (order_for a g live) k 0 ≡ (get_or ms k d).name = ap (λ (xs : List ℕ). get_or xs k 0) (sym names_are) ∙ get_or-map move_name ms k d 0 l in
      subst (λ (x : ℕ). to_move a g live x ≡ true) same (order_passes k (omega arith))
    where
      order_passes : (k : ℕ) → k < length (order_for a g live) → to_move a g live (get_or (order_for a g live) k 0) ≡ true
      order_passes k l = order_pass a g live k l

  -- the record tells a pass
  record_passes : IsPass a g h (whole_record a (bare_record a g h live))
  unfolding bare_record
  record_passes = record {
    generation = refl;
    target = refl;
    live = are_live;
    movable = λ k d l. to_move-parts a g live _ (move_at k d l);
    once = λ i j d l m.
        (let ms = (bare_record a g h live).moves in
        let long : length (order_for a g live) ≡ length ms = ap length (sym names_are) ∙ length-map ms move_name in
        let same : (k : ℕ) → k < length ms → get_or (order_for a g live) k 0 ≡ (get_or ms k d).name = λ k b. ap (λ (xs : List ℕ). get_or xs k 0) (sym names_are) ∙ get_or-map move_name ms k d 0 b in
        let apart = order_once a g live i j 0 l (omega arith) in
        λ equal. apart (same i (omega arith) ∙ equal ∙ sym (same j m)));
    placed = ap (λ (xs : List ℕ). (placement a xs).moves) (sym names_are);
    pins = pins_are a w.sound g;
    culls = refl;
    breaks = refl;
    queued = refl;
    freed = refl;
    dead = refl;
    kept = refl;
  }

-- a pass exists
pub pass_exists : (p : Program) (a : NamedHeap) (g h : ℕ) → IsWellFormed p a → (r : PassRecord) × IsPass a g h r
pass_exists p a g h w =
    let live = live_exist p a g w in (whole_record a (bare_record a g h live.0), record_passes p a g h w live.0 live.1)
