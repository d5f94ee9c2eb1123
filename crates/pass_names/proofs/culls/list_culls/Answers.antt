-- One culled pair more.
use Rattle.std.proofs.Common.{◌∷◌, ◌++◌, [], List, get_or, map, take, sym, ◌∙◌, ap, arith}
use Rattle.std.proofs.lemmas.List.{map_more}
use Rattle.heap_terms.specs.declared.events.Cull.{Cull}
use Rattle.pass_names.specs.Noted.{cull_at}
use Rattle.pass_names.specs.declared.places.NotePlace.{NotePlace}
use Rattle.pass_names.proofs.culls.list_culls.Goals as goal

abbrev nowhere : NotePlace
nowhere = record { table = 0; at = 0 }

pub cull_of-requires : goal.cull_of-requires
cull_of-requires c =
    let cs = c.requires.notes in
    let at = c.requires.places c.loop-place.place-index nowhere c.loop-place-test.true in
    (cull_at cs.0 (get_or c.args.places.now c.loop-place.place-index nowhere), cs.1.each (get_or c.args.places.now c.loop-place.place-index nowhere).at at)

pub loop-place-preserved : goal.loop-place-preserved
loop-place-preserved c =
    let n = c.loop-place.place-index in
    let places = c.args.places.now in
    let at = c.requires.places n nowhere c.loop-place-test.true in
    record {
      items = λ cs notes. c.push_reserved.ensures.items
          ∙ ap (λ (xs : List Cull). xs ++ c.cull_of.result ∷ []) (c.loop-place.invariant.items cs notes)
          ∙ ap (λ (x : Cull). map (cull_at cs) (take n places) ++ x ∷ []) (c.cull_of.ensures (cull_at cs (get_or places n nowhere)) (notes.each (get_or places n nowhere).at at))
          ∙ sym (map_more (cull_at cs) places n nowhere c.loop-place-test.true);
      len = omega arith;
      room = omega arith;
    }
