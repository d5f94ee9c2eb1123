use Rattle.std.proofs.Common.{◌≡◌, ◌++◌, take}
use Rattle.std.specs.List.{flat_map}
use Rattle.heap_terms.specs.Text.{event_text}
use Rattle.journal_text.proofs.printing.push_events.Given as goal

abbrev pub invariant-loop-event : goal.invariant-loop-event
invariant-loop-event l = l.out.text ≡ l.initial.out.text ++ flat_map event_text (take l.event-index l.events)
