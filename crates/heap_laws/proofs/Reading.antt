-- For the crates above: the slots of an object and its words, what a value refers to, when two values are the same, how
-- often a thread inhibits, and how many finalizers there are. The statements stand where they are proved.
pub use Rattle.heap_laws.proofs.Slots.Counted.{slots-length, header_leads}
pub use Rattle.heap_laws.proofs.Slots.Spelled.{map-replicate, slots-spelled, slots_from_words, words_from_slots}
pub use Rattle.heap_laws.proofs.Outcomes.Parts.{Refers, refers_at, fields_refer, raws_refer, with_field-kind, with_field-payload}
pub use Rattle.heap_laws.proofs.Outcomes.PairLists.{same_value-true, same_value-self}
pub use Rattle.heap_laws.proofs.Outcomes.WordBounds.{word_below, word_plus-below}
pub use Rattle.heap_laws.proofs.WellFormed.LivingValues.{fields_living}
pub use Rattle.heap_laws.proofs.Ranges.InhibitsFew.{InhibitsFew, replay-few}
pub use Rattle.heap_laws.proofs.Ranges.FinalizersFew.{replay-finalizers}
