-- The record that is written from the notes of a pass is the one that they tell, and it has room.
use Rattle.std.proofs.Common.{◌≡◌, ◌≢◌, ℕ, ◌/◌, ◌<◌, ◌≤◌, List, [], ◌∷◌, length, map, refl, sym, ◌∙◌, subst, ap, arith, get_or, Option, Some, None, Bool, true, false, inl, inr}
use Rattle.std.proofs.lemmas.Bool.{eq-eqb, ne_eqb, eqb-true, cases_lt}
use Rattle.std.proofs.lemmas.Bool.Decides.{Decides-eqb}
use Rattle.std.proofs.lemmas.List.{length-map, get_or-map, get_or_past}
use Rattle.std.proofs.lemmas.List.Elements.{All-head, All-tail, All-map, All-same, All-weaker}
use Rattle.std.proofs.lemmas.List.Filters.{length-filter_both}
use Rattle.std.proofs.lemmas.List.FromFn.{length-range_with_len}
use Rattle.std.proofs.lemmas.Map.Made.{IsDistinct-from_AllPairs}
use Rattle.std.proofs.lemmas.Map.Steps.{length-le_from_distinct_below}
use Rattle.std.specs.List.{range_with_len}
use Rattle.std.specs.Prelude.{slice_index, All, ◌==◌, not, filter, if◌then◌else◌, unwrap_or}
use Rattle.heap_terms.specs.declared.events.Cull.{Cull}
use Rattle.heap_terms.specs.declared.events.PassRecord.{PassRecord}
use Rattle.heap_terms.specs.declared.events.PinAt.{PinAt}
use Rattle.heap_terms.specs.declared.events.Placing.{Placing}
use Rattle.heap_terms.specs.Generations.{has_generation, is_of}
use Rattle.heap_terms.specs.Heap.{NamedHeap, object_at, entry_at}
use Rattle.heap_terms.specs.Objects.{Object, kind_of, payload_of}
use Rattle.heap_terms.specs.Passes.{IsPass, order_of, is_freed, remains}
use Rattle.heap_terms.specs.Survival.{breaks_of, culls_of}
use Rattle.heap_terms.specs.WellFormed.{IsSound}
use Rattle.heap_laws.proofs.AtPlaces.{IfSome-at}
use Rattle.heap_laws.proofs.Allocating.{size_least}
use Rattle.pass_laws.proofs.Lookups.{found_at}
use Rattle.copy_space.specs.declared.notes.Move.{Move}
use Rattle.copy_space.specs.declared.notes.PassNotes.{PassNotes}
use Rattle.copy_space.specs.Moved.{noted}
use Rattle.trace_laws.specs.Noted.{IsMoveOf, IsPinOf, IsToldBy}
use Rattle.lisp_heap.specs.Recording.{HaveLabels, new_place, pin_by, placing_by, recorded}
use Rattle.lisp_heap.specs.Standing.{LabelsStand}
use Rattle.lisp_heap.proofs.WeakNoted.{labels_of, met_in, notes_are}

-- ---- moves and pins with their names

gone_to : (o : Option ℕ) (old : ℕ) → o ≢ Some old → (if unwrap_or o old == old then None else Some (unwrap_or o old)) ≡ o
gone_to None old away = rw (eq-eqb old old refl) refl
gone_to (Some index) old away = rw (ne_eqb index old (λ e. away (ap {B = Option ℕ} (λ (x : ℕ). Some x) e))) refl

label_at : (a : NamedHeap) (labels : List ℕ) → LabelsStand a labels → (name index : ℕ) (o : Object) → object_at a.objects name ≡ Some o → index ≡ o.place →
    slice_index labels (index / 2) ≡ name
label_at a labels stand name index o there is =
    ap (λ (i : ℕ). slice_index labels (i / 2)) is ∙ IfSome-at (λ (q : Object). slice_index labels (q.place / 2) ≡ name) (object_at a.objects name) o there (stand.named name)

one_move : (a : NamedHeap) (labels : List ℕ) → LabelsStand a labels → (m : Placing) → IsMoveOf a m → placing_by labels (noted m) ≡ m
one_move a labels stand m h =
    let name : slice_index labels (m.old / 2) ≡ m.name = label_at a labels stand m.name m.old h.o h.there h.old in
    let to : new_place (noted m) ≡ m.new = gone_to m.new m.old h.away in
    ap (λ (n : ℕ). record { name = n; old = m.old; new = new_place (noted m) }) name
    ∙ ap (λ (o : Option ℕ). record { name = m.name; old = m.old; new = o }) to

all_moves : (a : NamedHeap) (labels : List ℕ) → LabelsStand a labels → (ms : List Placing) → All (IsMoveOf a) ms → map (placing_by labels) (map noted ms) ≡ ms
all_moves a labels stand [] h = refl
all_moves a labels stand (m ∷ ms) h =
    ap (λ (x : Placing). x ∷ map (placing_by labels) (map noted ms)) (one_move a labels stand m (All-head (IsMoveOf a) m ms h))
    ∙ ap (λ (xs : List Placing). m ∷ xs) (all_moves a labels stand ms (All-tail (IsMoveOf a) m ms h))

one_pin : (a : NamedHeap) (labels : List ℕ) → LabelsStand a labels → (q : PinAt) → IsPinOf a q → pin_by labels q.index ≡ q
one_pin a labels stand q h = ap (λ (n : ℕ). record { name = n; index = q.index }) (label_at a labels stand q.name q.index h.o h.there h.index)

all_pins : (a : NamedHeap) (labels : List ℕ) → LabelsStand a labels → (qs : List PinAt) → All (IsPinOf a) qs → map (pin_by labels) (map (λ (q : PinAt). q.index) qs) ≡ qs
all_pins a labels stand [] h = refl
all_pins a labels stand (q ∷ qs) h =
    ap (λ (x : PinAt). x ∷ map (pin_by labels) (map (λ (q : PinAt). q.index) qs)) (one_pin a labels stand q (All-head (IsPinOf a) q qs h))
    ∙ ap (λ (xs : List PinAt). q ∷ xs) (all_pins a labels stand qs (All-tail (IsPinOf a) q qs h))

-- the record
pub recorded_is : (a : NamedHeap) (g h : ℕ) (labels : List ℕ) (n : PassNotes) (r : PassRecord) (told : IsToldBy a r n) → LabelsStand a labels → IsPass a g h r → recorded labels (met_in a r n told) n ≡ r
recorded_is a g h labels n r told stand pass =
    let moves : map (placing_by labels) n.moves.items ≡ r.moves = ap (map (placing_by labels)) told.moves ∙ all_moves a labels stand r.moves told.moved in
    let pins : map (pin_by labels) n.pins.items ≡ r.pins = ap (map (pin_by labels)) told.pins ∙ all_pins a labels stand r.pins told.pinned in
    same n.generation n.target (map (placing_by labels) n.moves.items) (map (pin_by labels) n.pins.items) (culls_of a (remains a r)) (breaks_of a (remains a r)) n.queued.items n.freed.items n.dead n.kept r
    told.generation told.target moves pins (sym pass.culls) (sym pass.breaks) told.queued told.freed told.dead told.kept
  where
    same : (generation target : ℕ) (moves : List Placing) (pins : List PinAt) (culls : List Cull) (breaks queued freed : List ℕ) (dead kept : ℕ) (r : PassRecord) → generation ≡ r.generation → target ≡ r.target →
        moves ≡ r.moves → pins ≡ r.pins → culls ≡ r.culls → breaks ≡ r.breaks → queued ≡ r.queued → freed ≡ r.freed → dead ≡ r.dead → kept ≡ r.kept →
        ◌≡◌ {A = PassRecord}
        (record { generation = generation; target = target; moves = moves; pins = pins; culls = culls; breaks = breaks; queued = queued; freed = freed; dead = dead; kept = kept })
        (record { generation = r.generation; target = r.target; moves = r.moves; pins = r.pins; culls = r.culls; breaks = r.breaks; queued = r.queued; freed = r.freed; dead = r.dead; kept = r.kept })
    same generation target moves pins culls breaks queued freed dead kept r e1 e2 e3 e4 e5 e6 e7 e8 e9 e10 = cc

-- ---- the indices have labels

half_below : (a : NamedHeap) (labels : List ℕ) → IsSound a → LabelsStand a labels → (name index : ℕ) (o : Object) → object_at a.objects name ≡ Some o → index ≡ o.place →
    index / 2 < length labels
half_below a labels sound stand name index o there is =
    omega (arith, (sound.objects name o there).placed.inside, size_least (kind_of o.contents) (payload_of o.contents), stand.long, is)

pub have_labels : (a : NamedHeap) (labels : List ℕ) (n : PassNotes) (r : PassRecord) → IsSound a → length a.pages ≤ 1024 → LabelsStand a labels → IsToldBy a r n → HaveLabels labels n
have_labels a labels n r sound few stand told = record {
  moves = All-same (λ (m : Move). m.old / 2 < length labels) n.moves.items (map noted r.moves) told.moves
      (All-map (λ (m : Move). m.old / 2 < length labels) noted r.moves
      (All-weaker (IsMoveOf a) (λ (m : Placing). m.old / 2 < length labels) (λ m h. half_below a labels sound stand m.name m.old h.o h.there h.old) r.moves told.moved));
  pins = All-same (λ (index : ℕ). index / 2 < length labels) n.pins.items (map (λ (q : PinAt). q.index) r.pins) told.pins
      (All-map (λ (index : ℕ). index / 2 < length labels) (λ (q : PinAt). q.index) r.pins
      (All-weaker (IsPinOf a) (λ (q : PinAt). q.index / 2 < length labels) (λ q h. half_below a labels sound stand q.name q.index h.o h.there h.index) r.pins told.pinned));
  met = met_in a r n told;
  weak = notes_are a r n told labels (labels_of a labels sound few stand);
}

-- ---- how long the lists are

-- at most as many moves as names
pub of_below : (a : NamedHeap) (g name : ℕ) → is_of a g name ≡ true → name < length a.objects
of_below a g name e = elim (cases_lt name (length a.objects)) [
  | inl l ↦ l
  | inr past ↦ (let none : false ≡ true = subst (λ (q : Option Object). has_generation g q ≡ true) (get_or_past a.objects name None past) e in cc)
]

pub moves_few : (a : NamedHeap) (g h : ℕ) (r : PassRecord) → IsPass a g h r → length r.moves ≤ length a.objects
moves_few a g h r pass =
    let names = order_of r in
    let long : length names ≡ length r.moves = length-map r.moves (λ (m : Placing). m.name) in
    let d : Placing = record { name = 0; old = 0; new = None } in
    let few : length names ≤ length a.objects = length-le_from_distinct_below names (length a.objects)
    (IsDistinct-from_AllPairs (λ x y. Decides-eqb x y) names (λ i j e l m.
    (let first : get_or names i e ≡ (get_or r.moves i d).name = get_or-map (λ (m : Placing). m.name) r.moves i d e (omega (arith, l, m, long)) in
    let second : get_or names j e ≡ (get_or r.moves j d).name = get_or-map (λ (m : Placing). m.name) r.moves j d e (omega (arith, m, long)) in
    λ same. pass.once i j d l (omega (arith, m, long)) (sym first ∙ same ∙ second))))
    (λ name e. (
    let f = found_at (λ (x : ℕ). name == x) names e in
    let at : name ≡ get_or names f.0 0 = eqb-true name (get_or names f.0 0) (f.2 0) in
    let here : get_or names f.0 0 ≡ (get_or r.moves f.0 d).name = get_or-map (λ (m : Placing). m.name) r.moves f.0 d 0 (omega (arith, f.1, long)) in
    of_below a g name (subst (λ (x : ℕ). is_of a g x ≡ true) (sym (at ∙ here)) (pass.movable f.0 d (omega (arith, f.1, long))).0))) in
    omega (arith, few, long)

-- at most as many freed pages as pages
filter_few : {X : Type 0} (p : X → Bool) (xs : List X) → length (filter p xs) ≤ length xs
filter_few p xs = (let both = length-filter_both p (λ x. not (p x)) (λ x. refl) xs in omega (arith, both))

pub freed_few : (a : NamedHeap) (g h : ℕ) (r : PassRecord) → IsPass a g h r → length r.freed ≤ length a.pages
freed_few a g h r pass =
    let few = filter_few (λ page. is_freed r (entry_at a.pages page)) (range_with_len 0 (length a.pages)) in
    let long = length-range_with_len 0 (length a.pages) in
    let same = ap length pass.freed in
    omega (arith, few, long, same)
