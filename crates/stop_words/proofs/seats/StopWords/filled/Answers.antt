use Rattle.std.proofs.Common.{ap, ◌∙◌}
use Rattle.stop_words.specs.ParcelSlots.{parcels_in}
use Rattle.stop_words.proofs.Seating.{parcels_back, begins_so}
use Rattle.stop_words.proofs.seats.StopWords.filled.Goals as goal

pub new-requires : goal.new-requires
new-requires g c = begins_so g.P.Owned.owner_of _ _ c.args.parcels.items c.args.words.now c.into_slots.new.slots.items c.len.ensures c.requires.owners c.requires.count.0 c.requires.words c.into_slots.ensures.slots

pub returns-in-Err-clause-err : goal.returns-in-Err-clause-err
returns-in-Err-clause-err g c = c.out_of_slots.ensures ∙ ap parcels_in (c.in-Err.ensures.err ∙ c.into_slots.ensures.slots) ∙ parcels_back c.args.parcels.items
