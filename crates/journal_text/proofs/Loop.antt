-- What one more line makes of the reader, and what it stops at.
use Rattle.std.proofs.Common.{◌≡◌, ℕ, ◌^◌, ◌<◌, ◌≤◌, List, ◌∷◌, ◌++◌, length, ap, arith, length-append}
use Rattle.std.specs.List.{slice_split}
use Rattle.journal_text.specs.declared.parsing.faults.LineFault.{LineFault}
use Rattle.journal_text.specs.declared.parsing.faults.LineFault.TheVariants as faults
use Rattle.journal_text.specs.Builder.{AddsLine, State}
use Rattle.journal_text.specs.Cursors.{is_space}
use Rattle.journal_text.specs.Journals.{HasNoLf, IsFault}
use Rattle.journal_text.specs.Numbering.{fault_at}
use Rattle.journal_text.specs.PieceReading.{read_line}
use Rattle.std.specs.Prelude.{Err}
use Rattle.journal_text.proofs.Prefixes.{Reading, reading_bad, reading_short}

pub line_fault : (bytes rest content after : List ℕ) (number : ℕ) (s t : State) (fault : LineFault) → length bytes < 2 ^ 32 → rest ≡ content ++ (10 ∷ after) → HasNoLf content →
    AddsLine s (read_line (slice_split is_space content)) t (Err fault) → Reading bytes rest number s → IsFault (fault_at fault number) bytes
line_fault bytes rest content after number s t faults.Form small e plain told r = reading_bad bytes rest content after number s small e plain told r
line_fault bytes rest content after number s t faults.Memory small e plain told r = tt

pub room_for_more : (bytes rest content after : List ℕ) (number : ℕ) (s : State) → rest ≡ content ++ (10 ∷ after) → Reading bytes rest number s → number ≤ length bytes
room_for_more bytes rest content after number s e r = omega (arith, reading_short bytes rest number s r, ap length e, length-append content (10 ∷ after))
