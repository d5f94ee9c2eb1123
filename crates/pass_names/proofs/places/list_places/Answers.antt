-- One note more.
use Rattle.std.proofs.Common.{◌≡◌, ℕ, ◌∷◌, ◌++◌, [], List, get_or, map, sym, ◌∙◌, ap, arith}
use Rattle.std.proofs.lemmas.List.{get_or_default}
use Rattle.std.proofs.lemmas.List.FromFn.{map-range_with_len_more}
use Rattle.std.specs.List.{range_with_len}
use Rattle.pass_names.specs.Places.{no_note, place_in}
use Rattle.pass_names.specs.declared.places.NotePlace.{NotePlace}
use Rattle.pass_names.proofs.Reading.{has_label}
use Rattle.pass_names.proofs.places.list_places.Goals as goal

pub at-requires : goal.at-requires
at-requires c = has_label c.args.labels.now _ (c.requires.labels c.loop-note.note-index no_note c.loop-note-test.true)

pub loop-note-preserved : goal.loop-note-preserved
loop-note-preserved c =
    let n = c.loop-note.note-index in
    let labels = c.args.labels.now in
    let notes = c.args.notes.now in
    let there = has_label labels (get_or notes n no_note).table (c.requires.labels n no_note c.loop-note-test.true) in
    let name = c.at.ensures ∙ get_or_default labels _ c.at.result 0 there in
    let at : c.len.result ≡ n = omega arith in
    let is : ◌≡◌ {A = NotePlace} (record { table = c.at.result; at = c.len.result }) (place_in labels notes n) =
    ap (λ (x : ℕ). record { table = x; at = c.len.result }) name ∙ ap (λ (x : ℕ). record { table = (place_in labels notes n).table; at = x }) at in
    record {
      items = c.push_reserved.ensures.items
          ∙ ap (λ (ps : List NotePlace). ps ++ record { table = c.at.result; at = c.len.result } ∷ []) c.loop-note.invariant.items
          ∙ ap (λ (p : NotePlace). map (place_in labels notes) (range_with_len 0 n) ++ p ∷ []) is
          ∙ sym (map-range_with_len_more (place_in labels notes) 0 n n (omega arith));
      len = omega arith;
      room = omega arith;
    }
