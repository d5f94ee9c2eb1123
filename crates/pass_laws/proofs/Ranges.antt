-- The numbers in the record of a pass are in their ranges.
use Rattle.std.proofs.Common.{◌≡◌, ℕ, zero, suc, ◌+◌, ◌*◌, ◌^◌, ◌<◌, ◌≤◌, List, [], ◌∷◌, length, get_or, Option, Some, None, true, inl, inr, refl, sym, ◌∙◌, subst, ap, arith}
use Rattle.std.proofs.lemmas.Bool.{cases_Bool, false≢true, eq-eqb, ne_eqb}
use Rattle.std.proofs.lemmas.List.Elements.{All-nil, All-cons, All-append, All-filter, All-map}
use Rattle.std.proofs.lemmas.List.FromFn.{length-range_with_len, get_or-range_with_len}
use Rattle.std.proofs.lemmas.List.Sums.{count_by-le-length}
use Rattle.std.proofs.lemmas.List.{get_or-map}
use Rattle.std.specs.List.{range_with_len}
use Rattle.std.specs.Prelude.{All, AllPairs, filter, flat_map, not, ◌≢◌, IsSome}
use Rattle.heap_terms.specs.declared.cells.Value.{Value}
use Rattle.heap_terms.specs.declared.cells.Value.TheVariants as values
use Rattle.heap_terms.specs.declared.events.Cull.{Cull}
use Rattle.heap_terms.specs.declared.events.PassRecord.{PassRecord}
use Rattle.heap_terms.specs.declared.events.PinAt.{PinAt}
use Rattle.heap_terms.specs.declared.events.Placing.{Placing}
use Rattle.heap_terms.specs.declared.programs.Program.{Program}
use Rattle.heap_terms.specs.Generations.{has_generation, is_of, names}
use Rattle.heap_terms.specs.Heap.{NamedHeap, object_at, entry_at, zero_value}
use Rattle.heap_terms.specs.Living.{IsLiving, HoldsLiving}
use Rattle.heap_terms.specs.Objects.{Object, Contents, ConsOf, VectorOf, InstanceOf, ClosureOf, WordsOf, WeakTo, TableOf, words_of_object}
use Rattle.heap_terms.specs.OnPages.{IsPlaced}
use Rattle.heap_terms.specs.Passes.{IsPass, remains, order_of, moved_to, is_freed}
use Rattle.heap_terms.specs.Placement.{placement}
use Rattle.heap_terms.specs.Sound.{IsFinalizer}
use Rattle.heap_terms.specs.Survival.{is_kept, culled_from, culls_in, culls_of}
use Rattle.heap_terms.specs.WellFormed.{IsWellFormed}
use Rattle.heap_terms.specs.Collections.{closed, after_pass_of, ArePasses, IsCollection}
use Rattle.heap_terms.specs.Policy.{is_raised, target_of}
use Rattle.pass_laws.specs.NoRegions.{HasNoRegions}
use Rattle.pass_laws.specs.PlainRecords.{IsName, IsIndex, IsNewIndex, IsSide, IsPlainRecord}
use Rattle.pass_laws.specs.Spread.{settled}
use Rattle.pass_laws.proofs.AfterPages.{spread, objects_long}
use Rattle.pass_laws.proofs.Collecting.{is_continued-low, target-most, pass_of-well_formed, closed_none, closed-well_formed}
use Rattle.pass_laws.proofs.LiveNames.{object_below}
use Rattle.pass_laws.proofs.Sizes.{words_least}
use Rattle.pass_laws.proofs.Spreading.{IsMoveOf}

-- each move has the place that the list gives to its name
moved_at : (moves : List Placing) → AllPairs (λ (m n : Placing). m.name ≢ n.name) moves → (k : ℕ) (d : Placing) → k < length moves →
    moved_to moves (get_or moves k d).name ≡ (get_or moves k d).new
moved_at [] once k d l = absurd (omega (arith, l))
moved_at (m ∷ rest) once zero d l = rw (eq-eqb m.name m.name refl) refl
moved_at (m ∷ rest) once (suc k) d l =
    let apart : m.name ≢ (get_or rest k d).name = once 0 (suc k) d (omega arith) (omega arith) in
    rw (ne_eqb m.name (get_or rest k d).name apart) (moved_at rest (λ i j e n o. once (suc i) (suc j) e (omega arith) (omega arith)) k d (omega arith))

All-flat_map : {X Y : Type 0} (P : Y → Type 0) (f : X → List Y) (xs : List X) → ((i : ℕ) (d : X) → i < length xs → All P (f (get_or xs i d))) → All P (flat_map f xs)
All-flat_map P f [] h = All-nil P
All-flat_map P f (x ∷ xs) h = All-append P (f x) (flat_map f xs) (h 0 x (omega arith)) (All-flat_map P f xs (λ i d l. h (suc i) d (omega arith)))

-- the elements of a range are below its end
range_below : (n m : ℕ) → n ≤ m → All (λ x. x < m) (range_with_len 0 n)
range_below n m le k d l = (let long = length-range_with_len 0 n in rw (get_or-range_with_len 0 n k d (omega arith)) (omega arith))

of_there : (a : NamedHeap) (g x : ℕ) → is_of a g x ≡ true → x < length a.objects
of_there a g x e = go (object_at a.objects x) refl e
  where
    go : (q : Option Object) → object_at a.objects x ≡ q → has_generation g q ≡ true → x < length a.objects
    go None at h = absurd (false≢true h)
    go (Some o) at h = object_below a.objects x o at

module _ (p : Program) (a : NamedHeap) (g h : ℕ) (r : PassRecord) (w : IsWellFormed p a) (few : length a.objects ≤ 20000) (pages : p.pages ≤ 1024) (pass : IsPass a g h r) where
  space : 512 * length a.pages ≤ 524288
  space = (let long = w.pages_length in omega arith)

  place_below : (list : ℕ) (o : Object) → list ≡ length a.pages → o.place + words_of_object o ≤ 512 * list → IsIndex o.place
  place_below list o same inside = (let m = words_least o in let s = space in omega arith)

  old_below : (x : ℕ) (o : Object) → object_at a.objects x ≡ Some o → IsIndex o.place
  old_below x o at = place_below (length a.pages) o refl (w.sound.objects x o at).placed.inside

  moves_plain : All (λ (m : Placing). IsName m.name × IsIndex m.old × IsNewIndex m.new) r.moves
  moves_plain k d l =
      let keeps = spread a g h r w.sound pass in
      let m = get_or r.moves k d in
      let young = (pass.movable k d l).0 in
      let below = of_there a g m.name young in
      let old = (subst (λ (ms : List Placing). All (IsMoveOf a) ms) (sym pass.placed) keeps.olds) k d l in
      let old_index = old_below m.name old.0 old.1 in
      (omega arith, rw old.2 old_index, new_index m old.0 old.1 m.new (moved_at r.moves pass.once k d l))
    where
      new_index : (m : Placing) (o : Object) → object_at a.objects m.name ≡ Some o → (to : Option ℕ) → moved_to r.moves m.name ≡ to → IsNewIndex to
      new_index m o at None e = tt
      new_index m o at (Some index) e =
          let keeps = spread a g h r w.sound pass in
          let s = placement a (order_of r) in
          let e' : moved_to s.moves m.name ≡ Some index = ap (λ ms. moved_to ms m.name) (sym pass.placed) ∙ e in
          let placed : IsPlaced s.pages (settled (Some index) o) = subst (λ (to : Option ℕ). IsPlaced s.pages (settled to o)) e' (keeps.spread.placed m.name o at) in
          place_below (length s.pages) (settled (Some index) o) keeps.lengths placed.inside

  pins_plain : All (λ (q : PinAt). IsName q.name × IsIndex q.index) r.pins
  pins_plain k d l =
      let q = get_or r.pins k d in
      let at = pass.pins.pinned k d l in
      let below = object_below a.objects q.name at.0 at.1 in
      let index = old_below q.name at.0 at.1 in
      (omega arith, rw at.2 index)

  side_plain : (v : Value) → IsLiving a.objects v → IsSide v
  side_plain (values.Fix n) living = living
  side_plain values.Nil living = tt
  side_plain values.Unbound living = living
  side_plain (values.Ref x) living = go (object_at a.objects x) refl living
    where
      go : (q : Option Object) → object_at a.objects x ≡ q → IsSome q → IsName x
      go None at some = absurd (false≢true some)
      go (Some o) at some = (let below = object_below a.objects x o at in omega arith)

  culled_plain : (name : ℕ) → IsName name → (k : Contents) → HoldsLiving a.objects k → All (λ (c : Cull). IsName c.table × IsSide c.key × IsSide c.value) (culled_from (remains a r) name k)
  culled_plain name is (ConsOf x y) holds = All-nil _
  culled_plain name is (VectorOf vs) holds = All-nil _
  culled_plain name is (InstanceOf vs) holds = All-nil _
  culled_plain name is (ClosureOf vs) holds = All-nil _
  culled_plain name is (WordsOf ws) holds = All-nil _
  culled_plain name is (WeakTo v) holds = All-nil _
  culled_plain name is (TableOf weakness b pairs) holds =
      All-map (λ (c : Cull). IsName c.table × IsSide c.key × IsSide c.value) (λ (pair : Value × Value). record { table = name; key = pair.0; value = pair.1 })
      (filter (λ pair. not (is_kept (remains a r) weakness pair)) pairs)
      (All-filter (λ pair. not (is_kept (remains a r) weakness pair)) (λ (pair : Value × Value). IsName name × IsSide pair.0 × IsSide pair.1) pairs
      (λ k d l. (
        is,
        side_plain _ (subst (IsLiving a.objects) (get_or-map (λ (q : Value × Value). q.0) pairs k d zero_value l) (holds.0 k)),
        side_plain _ (subst (IsLiving a.objects) (get_or-map (λ (q : Value × Value). q.1) pairs k d zero_value l) (holds.1 k)),
      )))

  culls_plain : All (λ (c : Cull). IsName c.table × IsSide c.key × IsSide c.value) (culls_of a (remains a r))
  culls_plain = All-flat_map (λ (c : Cull). IsName c.table × IsSide c.key × IsSide c.value) (λ name. culls_in (remains a r) name (object_at a.objects name)) (names a)
      (λ i d l. in_object (get_or (names a) i d) (object_at a.objects (get_or (names a) i d)) refl)
    where
      in_object : (name : ℕ) (q : Option Object) → object_at a.objects name ≡ q → All (λ (c : Cull). IsName c.table × IsSide c.key × IsSide c.value) (culls_in (remains a r) name q)
      in_object name None at = All-nil _
      in_object name (Some o) at =
          let below = object_below a.objects name o at in
          let plain = culled_plain name (omega arith) o.contents (w.sound.objects name o at).contents in
          elim (cases_Bool (remains a r name)) [
            | inl live ↦ rw live plain
            | inr dead ↦ rw dead (All-nil (λ (c : Cull). IsName c.table × IsSide c.key × IsSide c.value))
          ]

  pub record_plain : g ≤ 5 → h ≤ 6 → IsPlainRecord r
  record_plain low high = record {
    generation = rw pass.generation low;
    target = rw pass.target high;
    moves = moves_plain;
    pins = pins_plain;
    culls = rw pass.culls culls_plain;
    breaks = rw pass.breaks (All-filter _ (λ x. x < 20000) (names a) (range_below (length a.objects) 20000 few));
    queued = rw pass.queued (All-map (λ (id : ℕ). id < 2 ^ 32) (λ (entry : ℕ × ℕ). entry.1) (filter (λ entry. not (remains a r entry.0)) a.finalizers)
        (λ k d l. (All-filter (λ entry. not (remains a r entry.0)) (IsFinalizer a.objects) a.finalizers w.sound.finalizers k d l).id));
    freed = rw pass.freed (All-filter (λ page. is_freed r (entry_at a.pages page)) (λ x. x < 1024) (range_with_len 0 (length a.pages))
        (range_below (length a.pages) 1024 (let long = w.pages_length in omega arith)));
    dead = rw pass.dead (few_names (count_by-le-length _ (names a)));
    kept = rw pass.kept (few_names (count_by-le-length _ (names a)));
  }
    where
      few_names : {n : ℕ} → n ≤ length (names a) → n < 2 ^ 32
      few_names l = (let long = length-range_with_len 0 (length a.objects) in omega arith)

-- the records of a collection
passes_plain : (p : Program) (a : NamedHeap) (last g : ℕ) (records : List PassRecord) → g ≤ 5 → IsWellFormed p a → HasNoRegions a → p.pages ≤ 1024 → length a.objects ≤ 20000 →
    ArePasses a last g records → All IsPlainRecord records
passes_plain p a last g [] low w none pages few are = absurd are
passes_plain p a last g (r ∷ []) low w none pages few are =
    let target = target-most a last g low in
    All-cons IsPlainRecord r [] (record_plain p a g (target_of g (is_raised a last g)) r w few pages are.0 low (omega arith)) (All-nil IsPlainRecord)
passes_plain p a last g (r ∷ s ∷ rest) low w none pages few are =
    let target = target-most a last g low in
    let next = pass_of-well_formed p a last g r low w none are.0 in
    let more = is_continued-low (after_pass_of a last g r) last g (is_raised a last g) are.1 in
    let long : length (after_pass_of a last g r).objects ≡ length a.objects = objects_long a g (target_of g (is_raised a last g)) r w.sound are.0 in
    All-cons IsPlainRecord r (s ∷ rest) (record_plain p a g (target_of g (is_raised a last g)) r w few pages are.0 low (omega arith))
    (passes_plain p (after_pass_of a last g r) last (g + 1) (s ∷ rest) (omega arith) next.0 next.1 pages (omega arith) are.2)

pub collection_plain : (p : Program) (a : NamedHeap) (last : ℕ) (records : List PassRecord) → IsWellFormed p a → p.pages ≤ 1024 → length a.objects ≤ 20000 →
    IsCollection a last records → All IsPlainRecord records
collection_plain p a last records w pages few h =
    passes_plain p (closed a) last 0 records (omega arith) (closed-well_formed p a w) (closed_none a) pages few h.passes
