-- That each line is decided by itself and by what is still open from the lines before it. What is open is where the last
-- line left the journal, and how many events are whole; the lines themselves are forgotten.
use Rattle.std.specs.Prelude.{◌≡◌, ◌↔◌, ℕ, ◌<◌, ◌^◌, List, [], ◌∷◌, ◌++◌, length, flat_map, Option, Some, IsSome}
use Rattle.std.specs.List.{AllByRecursion, slice_split}
use Rattle.heap_terms.specs.Text.{line}
use Rattle.journal_text.specs.Builder.{State, add, start}
use Rattle.journal_text.specs.Cursors.{is_space}
use Rattle.journal_text.specs.Journals.{BeginsJournal, HasNoLf}
use Rattle.journal_text.specs.LineReading.{◌>>=◌}
use Rattle.journal_text.specs.PieceReading.{read_line}

-- one more line, without its LF; none where it may not stand there
abbrev pub line_added : State → List ℕ → Option State
line_added s content = read_line (slice_split is_space content) >>= λ piece. add s piece

-- lines one after the other
abbrev pub lines_added : State → List (List ℕ) → Option State
lines_added s [] = Some s
lines_added s (content ∷ more) = line_added s content >>= λ t. lines_added t more

-- the same is open: the lines left both at one stage, with as many events
pub record SameOpen (s t : State) : Type 0 where
  pub stage : s.stage ≡ t.stage
  pub count : length s.events ≡ length t.events

-- Lines begin a journal exactly where each may follow what those before it left open.
abbrev pub PrefixesAreRead : Type 0
PrefixesAreRead = (lines : List (List ℕ)) → AllByRecursion HasNoLf lines → length (flat_map line lines) < 2 ^ 32 →
    BeginsJournal (flat_map line lines) ↔ IsSome (lines_added start lines)

-- Behind lines that begin a journal one more line does so too exactly where it may follow what they left open.
abbrev pub OpenLinesDecide : Type 0
OpenLinesDecide = (before : List (List ℕ)) (content : List ℕ) (s : State) → HasNoLf content → length (flat_map line before ++ line content) < 2 ^ 32 → lines_added start before ≡ Some s →
    BeginsJournal (flat_map line before ++ line content) ↔ IsSome (line_added s content)

-- What may follow is the same wherever the same is open.
abbrev pub OpenIsEnough : Type 0
OpenIsEnough = (s t : State) (content : List ℕ) → SameOpen s t → IsSome (line_added s content) → IsSome (line_added t content)

-- So a line is decided by itself and by what the lines before it left open.
abbrev pub LinesAreDecided : Type 0
LinesAreDecided = PrefixesAreRead × OpenLinesDecide × OpenIsEnough
