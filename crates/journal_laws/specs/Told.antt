-- What a journal tells of a history.
use Rattle.std.specs.Prelude.{◌≡◌, List}
use Rattle.heap_terms.specs.declared.events.Event.{Event}
use Rattle.heap_terms.specs.declared.programs.Program.{Program}
use Rattle.heap_terms.specs.Histories.{Lawful}
use Rattle.heap_terms.specs.Text.{journal_text}
use Rattle.heap_terms.specs.Valid.{IsValid}
use Rattle.journal_text.specs.Journals.{IsJournal}
use Rattle.journal_text.specs.Ranges.{AreEvents}

-- every lawful history of a valid program is within the ranges of a journal
abbrev pub HistoriesAreTold : Type 0
HistoriesAreTold = (p : Program) (h : List Event) → IsValid p → Lawful p h → AreEvents h

-- the text of such a history is the journal of it, and of no other events
abbrev pub JournalsNameHistories : Type 0
JournalsNameHistories =
    (p : Program) (h : List Event) → IsValid p → Lawful p h →
    IsJournal (journal_text h) h × ((g : List Event) → IsJournal (journal_text h) g → g ≡ h)
