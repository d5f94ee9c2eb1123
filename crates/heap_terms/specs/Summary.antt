-- The summary of a run: fifteen numbers of a program and its history, a line for each. It is this project's own.
use Rattle.std.specs.Prelude.{ℕ, ◌-◌, ◌^◌, Bool, true, false, List, [], ◌++◌, length, count_by, sum_by, is_none, is_some, codes, min}
use Rattle.heap_terms.specs.declared.answers.Answer.{Answer}
use Rattle.heap_terms.specs.declared.answers.Answer.TheVariants as answers
use Rattle.heap_terms.specs.declared.events.Event.{Event}
use Rattle.heap_terms.specs.declared.events.Event.TheVariants.{Did, Opened, Collected, Ended}
use Rattle.heap_terms.specs.declared.events.PassRecord.{PassRecord}
use Rattle.heap_terms.specs.declared.programs.Program.{Program}
use Rattle.heap_terms.specs.declared.totals.Totals.{Totals}
use Rattle.heap_terms.specs.Text.{line, number_field}

-- a number, or the largest of 64 bits where it is above that
abbrev pub capped : ℕ → ℕ
capped n = min n (2 ^ 64 - 1)

-- whether an answer is that of a commit: the new object and its place
abbrev pub is_placed : Answer → Bool
is_placed (answers.Placed name index) = true
is_placed _ = false

abbrev pub is_commit : Event → Bool
is_commit (Did t c answer) = is_placed answer
is_commit (Opened t ty first k) = false
is_commit (Collected t last passes) = false
is_commit (Ended t) = false

abbrev pub is_collection : Event → Bool
is_collection (Did t c answer) = false
is_collection (Opened t ty first k) = false
is_collection (Collected t last passes) = true
is_collection (Ended t) = false

-- the passes of an event
abbrev pub passes_of : Event → List PassRecord
passes_of (Did t c answer) = []
passes_of (Opened t ty first k) = []
passes_of (Collected t last passes) = passes
passes_of (Ended t) = []

-- a number of each pass, summed over the passes of all events
abbrev pub over_passes : (PassRecord → ℕ) → List Event → ℕ
over_passes number = sum_by (λ e. sum_by number (passes_of e))

-- the numbers of a pass: moves without the stays, and the stays
abbrev pub moves_in : PassRecord → ℕ
moves_in r = count_by (λ m. is_some m.new) r.moves

abbrev pub stays_in : PassRecord → ℕ
stays_in r = count_by (λ m. is_none m.new) r.moves

-- the fifteen numbers
unfoldable pub totals_of : Program → List Event → Totals
totals_of p h = record {
  threads = capped (length p.threads);
  pages = capped p.pages;
  commands = capped (sum_by length p.threads);
  events = capped (length h);
  objects = capped (count_by is_commit h);
  collections = capped (count_by is_collection h);
  passes = capped (sum_by (λ e. length (passes_of e)) h);
  moved = capped (over_passes moves_in h);
  pinned = capped (over_passes (λ r. length r.pins) h);
  stayed = capped (over_passes stays_in h);
  dead = capped (over_passes (λ r. r.dead) h);
  culled = capped (over_passes (λ r. length r.culls) h);
  broken = capped (over_passes (λ r. length r.breaks) h);
  queued = capped (over_passes (λ r. length r.queued) h);
  freed = capped (over_passes (λ r. length r.freed) h);
}

-- their lines: a word, a space and the number
abbrev pub total_line : List ℕ → ℕ → List ℕ
total_line name n = line (name ++ number_field n)

abbrev pub totals_text : Totals → List ℕ
totals_text t =
    total_line (codes "threads") t.threads ++ total_line (codes "pages") t.pages ++ total_line (codes "commands") t.commands
    ++ total_line (codes "events") t.events ++ total_line (codes "objects") t.objects
    ++ total_line (codes "collections") t.collections ++ total_line (codes "passes") t.passes ++ total_line (codes "moved") t.moved
    ++ total_line (codes "pinned") t.pinned ++ total_line (codes "stayed") t.stayed ++ total_line (codes "dead") t.dead
    ++ total_line (codes "culled") t.culled ++ total_line (codes "broken") t.broken ++ total_line (codes "queued") t.queued
    ++ total_line (codes "freed") t.freed

-- the summary of a run
abbrev pub summary_text : Program → List Event → List ℕ
summary_text p h = totals_text (totals_of p h)
