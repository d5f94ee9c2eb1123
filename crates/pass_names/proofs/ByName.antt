-- The culled pairs that notes tell, taken by places in order, are those of the definition.
use Rattle.std.proofs.Common.{◌≡◌, ℕ, suc, ◌<◌, ◌≤◌, List, [], ◌∷◌, length, map, get_or, refl, sym, ◌∙◌, subst, ap, arith, Option, Some, None, Bool, true, false, inl, inr}
use Rattle.std.proofs.lemmas.Bool.{cases_Bool, cases_eq, cases_lt, eq-eqb, eqb-true, ne_eqb, false≢true}
use Rattle.std.proofs.lemmas.List.{get_or_past, length-map, get_or-map, get_or_default}
use Rattle.std.proofs.lemmas.List.Elements.{All-append, All-filter, All-map}
use Rattle.std.proofs.lemmas.List.FromFn.{length-map-range_with_len, get_or-map-range_with_len}
use Rattle.std.proofs.lemmas.List.Sorted.{All-permutation}
use Rattle.std.specs.Prelude.{All, filter, flat_map, not, nat_eq}
use Rattle.std.specs.List.{list_any, range_with_len}
use Rattle.std.specs.List.Sorted.{IsPermutation}
use Rattle.heap_terms.specs.declared.cells.Value.{Value}
use Rattle.heap_terms.specs.declared.events.Cull.{Cull}
use Rattle.heap_terms.specs.Generations.{names}
use Rattle.heap_terms.specs.Heap.{NamedHeap, object_at, zero_value}
use Rattle.heap_terms.specs.Living.{IsLiving, AreLiving, HoldsLiving}
use Rattle.heap_terms.specs.Objects.{Object, Contents, ConsOf, VectorOf, InstanceOf, ClosureOf, WordsOf, WeakTo, TableOf}
use Rattle.heap_terms.specs.Survival.{culled_from, culls_in, culls_of, is_kept}
use Rattle.pass_laws.proofs.Lookups.{found_at}
use Rattle.copy_space.specs.declared.notes.CullNote.{CullNote}
use Rattle.copy_space.specs.CullNotes.{culled_of, noted_cull}
use Rattle.copy_space.specs.WeakNames.{is_weak, place_of}
use Rattle.pass_names.specs.Labelled.{HasName, label_at}
use Rattle.pass_names.specs.Named.{Met, IsMet}
use Rattle.pass_names.specs.Noted.{AreNotesOf, cull_at, no_cull}
use Rattle.pass_names.specs.Places.{AreInOrder, Precedes, no_note, place_in}
use Rattle.pass_names.specs.declared.places.NotePlace.{NotePlace}
use Rattle.pass_names.proofs.Ascending.{Ascends, has_key, same_by_keys}
use Rattle.pass_names.proofs.Picking.{range_distinct, range_has, told_nothing, told_once}
use Rattle.pass_names.proofs.Placed.{ats, listed_up, same_ats}
use Rattle.pass_names.proofs.Ranges.{list_of_places, range_ascends}

abbrev table_of : Cull → ℕ
table_of c = c.table

map_map : {X Y Z : Type 0} (g : Y → Z) (h : X → Y) (xs : List X) → map g (map h xs) ≡ map (λ x. g (h x)) xs
map_map g h [] = refl
map_map g h (x ∷ xs) = ap (λ ys. g (h x) ∷ ys) (map_map g h xs)

pub there_inside : (a : NamedHeap) (name : ℕ) (o : Object) → object_at a.objects name ≡ Some o → name < length a.objects
there_inside a name o e = elim (cases_lt name (length a.objects)) [
  | inl l ↦ l
  | inr past ↦ (let none : None ≡ Some o = sym (get_or_past a.objects name None past) ∙ e in cc)
]

-- ---- what is culled from an object

-- a culled pair is of a table that is there, and its sides are living
pub record IsCulled (a : NamedHeap) (c : Cull) : Type 0 where
  pub o : Object
  pub there : object_at a.objects c.table ≡ Some o
  pub key_lives : IsLiving a.objects c.key
  pub value_lives : IsLiving a.objects c.value

-- the pairs of a table have living sides
pairs_live : (objects : List (Option Object)) (pairs : List (Value × Value)) → AreLiving objects (map (λ pair. pair.0) pairs) → AreLiving objects (map (λ pair. pair.1) pairs) →
    All (λ (pair : Value × Value). IsLiving objects pair.0 × IsLiving objects pair.1) pairs
pairs_live objects pairs keys values k d l = (
  subst (IsLiving objects) (get_or-map (λ (pair : Value × Value). pair.0) pairs k d zero_value l) (keys k),
  subst (IsLiving objects) (get_or-map (λ (pair : Value × Value). pair.1) pairs k d zero_value l) (values k),
)

module _ (a : NamedHeap) (live : ℕ → Bool) (name : ℕ) where
  nothing : All (λ (c : Cull). IsCulled a c × (c.table ≡ name)) []
  nothing k d l = absurd (omega (arith, l))

  from_object : (o : Object) → object_at a.objects name ≡ Some o → (k : Contents) → HoldsLiving a.objects k → All (λ (c : Cull). IsCulled a c × (c.table ≡ name)) (culled_from live name k)
  from_object o there (ConsOf x y) h = nothing
  from_object o there (VectorOf vs) h = nothing
  from_object o there (InstanceOf vs) h = nothing
  from_object o there (ClosureOf vs) h = nothing
  from_object o there (WordsOf ws) h = nothing
  from_object o there (WeakTo v) h = nothing
  from_object o there (TableOf w b pairs) h =
      All-map (λ (c : Cull). IsCulled a c × (c.table ≡ name)) (λ (pair : Value × Value). record { table = name; key = pair.0; value = pair.1 })
      (filter (λ pair. not (is_kept live w pair)) pairs)
      (λ k d l. (let both = All-filter (λ pair. not (is_kept live w pair)) (λ (pair : Value × Value). IsLiving a.objects pair.0 × IsLiving a.objects pair.1) pairs
      (pairs_live a.objects pairs h.0 h.1) k d l in
      (record { o = o; there = there; key_lives = both.0; value_lives = both.1 }, refl)))

  of_name : (q : Option Object) → object_at a.objects name ≡ q → ((o : Object) → q ≡ Some o → HoldsLiving a.objects o.contents) →
      All (λ (c : Cull). IsCulled a c × (c.table ≡ name)) (culls_in live name q)
  of_name None e h = nothing
  of_name (Some o) e h = elim (cases_Bool (live name)) [
    | inl lives ↦ rw lives (from_object o e o.contents (h o refl))
    | inr dead ↦ rw dead nothing
  ]

module _ (m : Met) (labels : List ℕ) (met : IsMet m labels) where
  abbrev f : ℕ → List Cull
  f name = culls_in m.live name (object_at m.heap.objects name)

  each_culled : (name : ℕ) → All (λ (c : Cull). IsCulled m.heap c × (c.table ≡ name)) (f name)
  each_culled name = of_name m.heap m.live name (object_at m.heap.objects name) refl (λ o e. (met.labels_are.sound.objects name o e).contents)

  own : (name : ℕ) → All (λ (c : Cull). table_of c ≡ name) (f name)
  own name k d l = (each_culled name k d l).1

  all_culled : (ns : List ℕ) → All (IsCulled m.heap) (flat_map f ns)
  all_culled [] = λ k d l. absurd (omega (arith, l))
  all_culled (n ∷ ns) = All-append (IsCulled m.heap) (f n) (flat_map f ns) (λ k d l. (each_culled n k d l).0) (all_culled ns)

  -- a name that is not among those that the pass met has nothing culled
  untold : (q : Option Object) (name : ℕ) → object_at m.heap.objects name ≡ q → list_any (nat_eq name) m.names ≡ false → culls_in m.live name q ≡ []
  untold None name e none = refl
  untold (Some o) name e none = elim (cases_Bool (m.live name)) [
    | inl lives ↦ rw lives (go o.contents (λ weak. absurd (false≢true (sym none ∙ met.weak.all name o e weak lives))))
    | inr dead ↦ rw dead refl
  ]
    where
      go : (k : Contents) → (is_weak k ≡ true → ⊥) → culled_from m.live name k ≡ []
      go (ConsOf x y) strong = refl
      go (VectorOf vs) strong = refl
      go (InstanceOf vs) strong = refl
      go (ClosureOf vs) strong = refl
      go (WordsOf ws) strong = refl
      go (WeakTo v) strong = refl
      go (TableOf w b pairs) strong = absurd (strong refl)

  -- what the pass met and all names tell the same of each table
  alike : (n : ℕ) → filter (has_key table_of n) (flat_map f m.names) ≡ filter (has_key table_of n) (culls_of m.heap m.live)
  alike n = elim (cases_Bool (list_any (nat_eq n) m.names)) [
    | inl there ↦ (
        let weak = met.weak.each in
        told_once table_of f own n m.names met.weak.once there ∙ sym (told_once table_of f own n (names m.heap) (range_distinct (length m.heap.objects)) (range_has (length m.heap.objects) n (inside there))))
    | inr none ↦ (
        let nothing : f n ≡ [] = untold (object_at m.heap.objects n) n refl none in
        told_nothing table_of f own n m.names nothing ∙ sym (told_nothing table_of f own n (names m.heap) nothing))
  ]
    where
      inside : list_any (nat_eq n) m.names ≡ true → n < length m.heap.objects
      inside there =
          let found = found_at (nat_eq n) m.names there in
          let weak = met.weak.each found.0 0 found.1 in
          let same : n ≡ get_or m.names found.0 0 = eqb-true n (get_or m.names found.0 0) (found.2 0) in
          there_inside m.heap n weak.o (ap (object_at m.heap.objects) same ∙ weak.there)

  module _ (notes : List CullNote) (noted : notes ≡ culled_of m.heap m.live m.names) where
    abbrev cs : List Cull
    cs = flat_map f m.names

    long : length cs ≡ length notes
    long = sym (ap (λ (xs : List CullNote). length xs) noted ∙ length-map cs (noted_cull m.heap))

    -- the notes tell these pairs
    pub told : AreNotesOf labels cs notes
    told = record {
      long = long;
      each = λ i l. (
          let culled = all_culled m.names i no_cull (omega (arith, l, long)) in
          let note : get_or notes i no_note ≡ noted_cull m.heap (get_or cs i no_cull) =
          ap (λ (xs : List CullNote). get_or xs i no_note) noted ∙ get_or-map (noted_cull m.heap) cs i no_cull no_note (omega (arith, l, long)) in
          record {
            heap = m.heap;
            labels_are = met.labels_are;
            o = culled.o;
            there = culled.there;
            table = ap (λ (x : CullNote). x.table) note ∙ ap place_of culled.there;
            key_lives = culled.key_lives;
            key = ap (λ (x : CullNote). x.key) note;
            value_lives = culled.value_lives;
            value = ap (λ (x : CullNote). x.value) note;
          });
    }

    -- so their tables have names
    pub tables_named : All (λ (note : CullNote). HasName labels note.table) notes
    tables_named k d l =
        let is = told.each k l in
        subst (λ (note : CullNote). HasName labels note.table) (get_or_default notes k no_note d l)
        (record { heap = is.heap; labels_are = is.labels_are; name = (get_or cs k no_cull).table; o = is.o; there = is.there; here = is.table })

    abbrev placed : List NotePlace
    placed = map (place_in labels notes) (range_with_len 0 (length notes))

    -- a place is that of a note, and has the name of its table
    abbrev IsPlace : NotePlace → Type 0
    IsPlace p = (p.at < length notes) × ((cull_at cs p).table ≡ p.table)

    placed_right : All IsPlace placed
    placed_right k d l =
        let low : k < length notes = omega (arith, l, length-map-range_with_len (place_in labels notes) 0 (length notes)) in
        let is = told.each k low in
        let name : label_at labels (get_or notes k no_note).table ≡ (get_or cs k no_cull).table = ap (label_at labels) is.table ∙ is.labels_are.named (get_or cs k no_cull).table is.o is.there in
        subst IsPlace (sym (get_or-map-range_with_len (place_in labels notes) 0 (length notes) k k d low (omega arith))) (low, sym name)

    module _ (ps : List NotePlace) (permuted : IsPermutation placed ps) (sorted : AreInOrder ps) where
      pub right : All IsPlace ps
      right = All-permutation IsPlace placed ps permuted placed_right

      above : (p : NotePlace) (qs : List NotePlace) → IsPlace p → All (Precedes p) qs → All IsPlace qs → All (λ (c : Cull). (cull_at cs p).table ≤ c.table) (map (cull_at cs) qs)
      above p qs place before are = All-map (λ (c : Cull). (cull_at cs p).table ≤ c.table) (cull_at cs) qs (λ k d l.
          (let q = are k d l in elim (before k d l) [
            | inl less ↦ (let e = place.1 in let g = q.1 in omega (arith, less, e, g))
            | inr same ↦ (let e = place.1 in let g = q.1 in let s = same.0 in omega (arith, s, e, g))
          ]))

      ascending : (qs : List NotePlace) → AreInOrder qs → All IsPlace qs → Ascends table_of (map (cull_at cs) qs)
      ascending [] order are = tt
      ascending (p ∷ qs) order are =
          let rest : All IsPlace qs = λ k d l. are (suc k) d (omega (arith, l)) in
          (above p qs (are 0 p (omega arith)) order.0 rest, ascending qs order.1 rest)

      -- the pairs of one table at some places
      of_one : (n : ℕ) (qs : List NotePlace) → All IsPlace qs → filter (has_key table_of n) (map (cull_at cs) qs) ≡ map (λ at. get_or cs at no_cull) (ats n qs)
      of_one n [] are = refl
      of_one n (p ∷ qs) are =
          let rest = of_one n qs (λ k d l. are (suc k) d (omega (arith, l))) in
          let place = (are 0 p (omega arith)).1 in
          elim (cases_eq p.table n) [
            | inl same ↦ rw (eq-eqb p.table n same, eq-eqb (cull_at cs p).table n (place ∙ same)) (ap (λ (xs : List Cull). cull_at cs p ∷ xs) rest)
            | inr apart ↦ rw (ne_eqb p.table n apart, ne_eqb (cull_at cs p).table n (λ e. apart (sym place ∙ e))) rest
          ]

      placed_culls : map (cull_at cs) placed ≡ cs
      placed_culls = map_map (cull_at cs) (place_in labels notes) (range_with_len 0 (length notes)) ∙ list_of_places cs no_cull (length notes) (sym long)

      placed_up : (n : ℕ) → Ascends (λ x. x) (ats n placed)
      placed_up n = listed_up (place_in labels notes) (λ i. refl) n 0 (length notes)

      pub by_name : map (cull_at cs) ps ≡ culls_of m.heap m.live
      by_name = same_by_keys table_of (map (cull_at cs) ps) (culls_of m.heap m.live) (ascending ps sorted right) (range_ascends table_of f own 0 (length m.heap.objects)) (λ n.
          of_one n ps right
          ∙ ap (λ (xs : List ℕ). map (λ at. get_or cs at no_cull) xs) (same_ats n placed ps permuted sorted (placed_up n))
          ∙ sym (of_one n placed placed_right)
          ∙ ap (λ (xs : List Cull). filter (has_key table_of n) xs) placed_culls
          ∙ alike n)
