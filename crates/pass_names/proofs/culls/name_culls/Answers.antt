-- The notes tell the culled pairs, and these come out by name.
use Rattle.std.proofs.Common.{◌≡◌, ◌<◌, [], length, map, sym, ◌∙◌, subst, ap, arith, List}
use Rattle.std.proofs.lemmas.Bool.{eqb-true}
use Rattle.std.proofs.lemmas.List.{nil_from_length}
use Rattle.std.proofs.lemmas.List.FromFn.{length-map-range_with_len}
use Rattle.std.proofs.lemmas.List.Sorted.{IsPermutation-refl, length_permutation}
use Rattle.std.specs.List.{range_with_len}
use Rattle.std.specs.List.Sorted.{IsPermutation}
use Rattle.std.specs.Prelude.{All, flat_map}
use Rattle.heap_terms.specs.Heap.{object_at}
use Rattle.heap_terms.specs.Survival.{culls_in}
use Rattle.pass_names.specs.Noted.{cull_at}
use Rattle.copy_space.specs.declared.notes.CullNote.{CullNote}
use Rattle.pass_names.specs.Places.{place_in}
use Rattle.pass_names.specs.declared.places.NotePlace.{NotePlace}
use Rattle.pass_names.proofs.ByName.{by_name, right, tables_named, told}
use Rattle.pass_names.proofs.culls.name_culls.Goals as goal

pub returns-then-is_empty : goal.returns-then-is_empty
returns-then-is_empty c m h =
    let labels = c.args.labels.now in
    let notes = c.args.notes.now in
    let none : notes ≡ [] = nil_from_length notes (eqb-true (length notes) 0 (sym c.is_empty.ensures ∙ c.if-is_empty.true)) in
    let nowhere : IsPermutation (map (place_in labels notes) (range_with_len 0 (length notes))) [] =
    subst (λ (xs : List CullNote). IsPermutation (map (place_in labels xs) (range_with_len 0 (length xs))) []) (sym none) (IsPermutation-refl []) in
    c.new.ensures ∙ by_name m labels h.met notes h.noted [] nowhere tt

pub places_in_order-requires-clause-labels : goal.places_in_order-requires-clause-labels
places_in_order-requires-clause-labels c =
    let m = c.requires.noted in tables_named m.0 c.args.labels.now m.1.met c.args.notes.now m.1.noted

pub list_culls-requires-clause-notes : goal.list_culls-requires-clause-notes
list_culls-requires-clause-notes c =
    let m = c.requires.noted in (_, told m.0 c.args.labels.now m.1.met c.args.notes.now m.1.noted)

pub list_culls-requires-clause-places : goal.list_culls-requires-clause-places
list_culls-requires-clause-places c =
    let m = c.requires.noted in
    let all = right m.0 c.args.labels.now m.1.met c.args.notes.now m.1.noted c.places_in_order.new.places.items c.places_in_order.ensures.permutation c.places_in_order.ensures.sorted in
    subst (λ (ps : List NotePlace). All (λ (p : NotePlace). p.at < length c.args.notes.now) ps) (sym c.as_slice.ensures.value) (λ k d l. (all k d l).0)

pub list_culls-requires-clause-room : goal.list_culls-requires-clause-room
list_culls-requires-clause-room c =
    let labels = c.args.labels.now in
    let notes = c.args.notes.now in
    let long = length_permutation (map (place_in labels notes) (range_with_len 0 (length notes))) c.places_in_order.new.places.items c.places_in_order.ensures.permutation in
    let many = length-map-range_with_len (place_in labels notes) 0 (length notes) in
    let same = ap (λ (ps : List NotePlace). length ps) c.as_slice.ensures.value in
    omega (arith, c.requires.culls_fit, long, many, same)

pub returns : goal.returns
returns c m h =
    let labels = c.args.labels.now in
    let notes = c.args.notes.now in
    c.from_vec.ensures ∙ c.list_culls.ensures _ (told m labels h.met notes h.noted)
    ∙ ap (λ (ps : List NotePlace). map (cull_at (flat_map (λ name. culls_in m.live name (object_at m.heap.objects name)) m.names)) ps) c.as_slice.ensures.value
    ∙ by_name m labels h.met notes h.noted c.places_in_order.new.places.items c.places_in_order.ensures.permutation c.places_in_order.ensures.sorted
