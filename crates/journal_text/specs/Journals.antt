-- What bytes say as a journal, and where they stop being one. The faults are this project's own.
use Rattle.std.specs.Prelude.{◌≡◌, ◌≢◌, ℕ, suc, List, ◌++◌, length, flat_map}
use Rattle.std.specs.List.{AllByRecursion}
use Rattle.heap_terms.specs.declared.events.Event.{Event}
use Rattle.heap_terms.specs.declared.faults.Why.{Why}
use Rattle.heap_terms.specs.declared.faults.Why.TheVariants.{Word, Order, Fields, Form, Range, Missing}
use Rattle.heap_terms.specs.Text.{journal_text, line}
use Rattle.journal_text.specs.declared.faults.JournalFault.{JournalFault}
use Rattle.journal_text.specs.declared.faults.JournalFault.TheVariants as faults
use Rattle.journal_text.specs.Ranges.{AreEvents}

-- the bytes are the journal of these events, which are within the ranges
pub record IsJournal (bytes : List ℕ) (h : List Event) : Type 0 where
  pub within : AreEvents h
  pub text : bytes ≡ journal_text h

-- some journal begins with the bytes
pub record BeginsJournal (bytes : List ℕ) : Type 0 where
  pub events : List Event
  pub rest : List ℕ
  pub within : AreEvents events
  pub text : journal_text events ≡ bytes ++ rest

-- no byte is an LF
abbrev pub HasNoLf : List ℕ → Type 0
HasNoLf bytes = AllByRecursion (λ b. b ≢ 10) bytes

-- the bytes are so many lines, each with its LF
pub record AreLines (number : ℕ) (bytes : List ℕ) : Type 0 where
  pub contents : List (List ℕ)
  pub plain : AllByRecursion HasNoLf contents
  pub count : length contents ≡ number
  pub whole : bytes ≡ flat_map line contents

-- The line of this number, from 1, is the first that together with all lines before it begins no journal.
pub record IsFirstBad (number : ℕ) (bytes : List ℕ) : Type 0 where
  pub before : List ℕ
  pub content : List ℕ
  pub after : List ℕ
  pub earlier : ℕ
  pub whole : bytes ≡ before ++ (line content ++ after)
  pub lines : AreLines earlier before
  pub plain : HasNoLf content
  pub numbered : number ≡ suc earlier
  pub good : BeginsJournal before
  pub bad : BeginsJournal (before ++ line content) → ⊥

-- All lines together begin a journal, the bytes are no whole one, and the number is that of the lines plus 1.
pub record IsCutOff (number : ℕ) (bytes : List ℕ) : Type 0 where
  pub before : List ℕ
  pub tail : List ℕ
  pub earlier : ℕ
  pub whole : bytes ≡ before ++ tail
  pub lines : AreLines earlier before
  pub plain : HasNoLf tail
  pub numbered : number ≡ suc earlier
  pub good : BeginsJournal before
  pub bad : (h : List Event) → IsJournal bytes h → ⊥

-- what a reason says of the line of this number
abbrev pub IsBad : Why → ℕ → List ℕ → Type 0
IsBad Form number bytes = IsFirstBad number bytes
IsBad Missing number bytes = IsCutOff number bytes
IsBad Word number bytes = ⊥
IsBad Order number bytes = ⊥
IsBad Fields number bytes = ⊥
IsBad Range number bytes = ⊥

-- why there is no journal; want of memory says nothing of the bytes
abbrev pub IsFault : JournalFault → List ℕ → Type 0
IsFault (faults.Line number why) bytes = IsBad why number bytes
IsFault faults.Memory bytes = Unit {0}

-- Two journals of the same bytes are of the same events.
abbrev pub TextsAreDistinct : Type 0
TextsAreDistinct = (g h : List Event) → AreEvents g → AreEvents h → journal_text g ≡ journal_text h → g ≡ h
