-- The passes of a collection over the fields of a World, one after the other.
use Rattle.std.specs.Prelude.{◌≡◌, ℕ, ◌+◌, ◌≤◌, List, All, Option, Some, None, length}
use Rattle.copy_space.specs.declared.notes.Pass.{Pass}
use Rattle.generation_policy.specs.declared.stats.GenStats.{GenStats}
use Rattle.generation_policy.specs.Numbers.{StatsStand}
use Rattle.generation_policy.specs.Plan.{pass_over, planned}
use Rattle.generation_policy.specs.SoFar.{ArePassesSoFar}
use Rattle.heap_laws.specs.Numbers.{HasNumbers, most_passes}
use Rattle.heap_terms.specs.declared.events.PassRecord.{PassRecord}
use Rattle.heap_terms.specs.declared.limits.TheConstants.{MOST_COMMANDS, MOST_PAGES, OLDEST_COLLECTED}
use Rattle.heap_terms.specs.declared.pages.Entry.{Entry}
use Rattle.heap_terms.specs.declared.programs.Program.{Program}
use Rattle.heap_terms.specs.Collections.{ArePasses, IsPassOf, after_pass_of, after_passes}
use Rattle.heap_terms.specs.Heap.{NamedHeap}
use Rattle.heap_terms.specs.WellFormed.{IsWellFormed}
use Rattle.pass_laws.specs.NoRegions.{HasNoRegions, IsEmptyBelow}
use Rattle.trace_laws.specs.Rooted.{Rooted, StandFor}
use Rattle.pair_laws.specs.Counts.{pair_count}
use Rattle.lisp_heap.specs.Recording.{HasRoom}
use Rattle.lisp_heap.specs.Standing.{LabelsStand}
use Rattle.lisp_heap.specs.declared.recording.RecordRoom.{RecordRoom}
use Rattle.lisp_heap.specs.declared.recording.RecordSizes.{RecordSizes}

-- After n passes the fields stand for a heap whose exact roots have the same values as those of the first, and this heap is
-- of the same program, as long, and so that a further pass can be made and counted.
pub record StandNow (h : Rooted) (b : NamedHeap) (n : ℕ) (words : List ℕ) (pages : List Entry) (labels exact ambiguous : List ℕ) (stats : GenStats) : Type 0 where
  pub stand : StandFor (record { heap = b; values = h.values }) words pages exact ambiguous
  pub named : LabelsStand b labels
  pub counted : StatsStand b stats
  pub program : Program
  pub formed : IsWellFormed program b
  pub regions : HasNoRegions b
  pub pairs_few : pair_count b ≤ pair_count h.heap
  pub numbers : HasNumbers b (most_passes + n)
  pub few : length b.objects ≤ MOST_COMMANDS
  pub few_pages : length b.pages ≤ MOST_PAGES
  pub objects_long : length b.objects ≡ length h.heap.objects
  pub pages_long : length b.pages ≡ length h.heap.pages

-- the same after the passes of these records
abbrev pub Stand : Rooted → ℕ → List ℕ → List Entry → List ℕ → List ℕ → List ℕ → GenStats → List PassRecord → Type 0
Stand h last words pages labels exact ambiguous stats records =
    StandNow h (after_passes h.heap last 0 records) (length records) words pages labels exact ambiguous stats

-- a pass follows next, as the n-th, counted from 0: all younger generations are empty
pub record IsNextPass (a : NamedHeap) (last n : ℕ) (pass : Pass) : Type 0 where
  pub is : pass ≡ pass_over a last n
  pub low : n ≤ OLDEST_COLLECTED
  pub empty : IsEmptyBelow a n

-- the pass that follows on those of these records, or none where they are all
abbrev pub IsPlanned : NamedHeap → ℕ → List PassRecord → Option Pass → Type 0
IsPlanned a last records None = ArePasses a last 0 records
IsPlanned a last records (Some pass) =
    ArePassesSoFar a last 0 records × IsNextPass (after_passes a last 0 records) last (length records) pass

-- the n-th pass was made: the fields stand for the heap after it, and which pass follows is planned
pub record IsStepped (h : Rooted) (last n : ℕ) (pass : Pass) (words : List ℕ) (pages : List Entry) (labels exact ambiguous : List ℕ) (stats : GenStats) (r : PassRecord)
    (plan : Option Pass) : Type 0 where
  pub is_pass : IsPassOf h.heap last n r
  pub stand : StandNow h (after_pass_of h.heap last n r) (n + 1) words pages labels exact ambiguous stats
  pub plan_is : plan ≡ planned (after_pass_of h.heap last n r) last (Some pass)

-- rooms for records of these sizes
abbrev pub AreRooms : List RecordRoom → RecordSizes → Type 0
AreRooms rooms sizes = All (λ (room : RecordRoom). HasRoom room sizes) rooms
