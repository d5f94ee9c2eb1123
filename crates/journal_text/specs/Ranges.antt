-- Which lists of events a journal can tell: each number in its range, and to each command an answer that its row has.
-- The ranges are this project's own. Whether what is told is lawful, is no matter here.
use Rattle.std.specs.Prelude.{◌≡◌, ℕ, ◌≤◌, ◌<◌, ◌^◌, List, ◌∷◌, [], length, Option, Some, None, true}
use Rattle.std.specs.List.{AllByRecursion}
use Rattle.heap_terms.specs.declared.answers.Answer.{Answer}
use Rattle.heap_terms.specs.declared.answers.Answer.TheVariants.{Done, Val, Word, Yes, No, Absent, Live, Broken, Count, Ran, Page, Stat, Placed, Refused}
use Rattle.heap_terms.specs.declared.answers.Item.{Item}
use Rattle.heap_terms.specs.declared.answers.PageView.{PageView}
use Rattle.heap_terms.specs.declared.answers.PageView.TheVariants.{Free, Small, Large}
use Rattle.heap_terms.specs.declared.cells.Value.{Value}
use Rattle.heap_terms.specs.declared.cells.Value.TheVariants.{Fix, Nil, Unbound, Ref}
use Rattle.heap_terms.specs.declared.events.Cull.{Cull}
use Rattle.heap_terms.specs.declared.events.Event.{Event}
use Rattle.heap_terms.specs.declared.events.Event.TheVariants.{Did, Opened, Collected, Ended}
use Rattle.heap_terms.specs.declared.events.PassRecord.{PassRecord}
use Rattle.heap_terms.specs.declared.events.PinAt.{PinAt}
use Rattle.heap_terms.specs.declared.events.Placing.{Placing}
use Rattle.heap_terms.specs.declared.limits.TheConstants.{MOST_COMMANDS, MOST_WORDS, MOST_PAGES, MOST_THREADS, OLDEST_COLLECTED, OLDEST_GENERATION}
use Rattle.heap_terms.specs.Valid.{IsFixnum, IsInRange}
use Rattle.journal_text.specs.Rows.{may_answer}

-- a name, an index of a word, and a number of a page
abbrev pub IsName : ℕ → Type 0
IsName name = name < MOST_COMMANDS

abbrev pub IsIndex : ℕ → Type 0
IsIndex index = index < MOST_WORDS

abbrev pub IsPageNumber : ℕ → Type 0
IsPageNumber page = page < MOST_PAGES

-- a number of 32 bits
abbrev pub IsNumber32 : ℕ → Type 0
IsNumber32 n = n < 2 ^ 32

-- a value that a cell can hold
abbrev pub IsValue : Value → Type 0
IsValue (Fix n) = IsFixnum n
IsValue Nil = Unit {0}
IsValue Unbound = ⊥
IsValue (Ref name) = IsName name

-- an object of a page has no count; words of no object are one at least
abbrev pub IsItemOf : Option ℕ → ℕ → Type 0
IsItemOf (Some name) count = IsName name × (count ≡ 0)
IsItemOf None count = (1 ≤ count) × IsNumber32 count

abbrev pub IsItem : Item → Type 0
IsItem item = IsItemOf item.name item.count × IsIndex item.index

abbrev pub IsPage : PageView → Type 0
IsPage Free = Unit {0}
IsPage (Small ty g fill items) = (g ≤ OLDEST_COLLECTED) × IsNumber32 fill × AllByRecursion IsItem items
IsPage (Large ty g pages name index) = (g ≤ OLDEST_COLLECTED) × IsNumber32 pages × IsName name × IsIndex index

-- the ids that ran: one at least
abbrev pub AreIds : List ℕ → Type 0
AreIds [] = ⊥
AreIds (id ∷ ids) = AllByRecursion IsNumber32 (id ∷ ids)

abbrev pub IsAnswer : Answer → Type 0
IsAnswer Done = Unit {0}
IsAnswer (Val v) = IsValue v
IsAnswer (Word w) = w < 2 ^ 64
IsAnswer Yes = Unit {0}
IsAnswer No = Unit {0}
IsAnswer Absent = Unit {0}
IsAnswer (Live v) = IsValue v
IsAnswer Broken = Unit {0}
IsAnswer (Count n) = n < 2 ^ 64
IsAnswer (Ran ids) = AreIds ids
IsAnswer (Page view) = IsPage view
IsAnswer (Stat allocated cum num) = (allocated < 2 ^ 64) × (cum < 2 ^ 64) × IsNumber32 num
IsAnswer (Placed name index) = IsName name × IsIndex index
IsAnswer (Refused why) = Unit {0}

-- a move to a new index, or a stay
abbrev pub IsNewIndex : Option ℕ → Type 0
IsNewIndex None = Unit {0}
IsNewIndex (Some index) = IsIndex index

abbrev pub IsMove : Placing → Type 0
IsMove m = IsName m.name × IsIndex m.old × IsNewIndex m.new

abbrev pub IsPin : PinAt → Type 0
IsPin q = IsName q.name × IsIndex q.index

abbrev pub IsCull : Cull → Type 0
IsCull k = IsName k.table × IsValue k.key × IsValue k.value

-- all numbers of a pass
pub record IsPass (r : PassRecord) : Type 0 where
  pub generation : r.generation ≤ OLDEST_COLLECTED
  pub target : r.target ≤ OLDEST_GENERATION
  pub moves : AllByRecursion IsMove r.moves
  pub pins : AllByRecursion IsPin r.pins
  pub culls : AllByRecursion IsCull r.culls
  pub breaks : AllByRecursion IsName r.breaks
  pub queued : AllByRecursion IsNumber32 r.queued
  pub freed : AllByRecursion IsPageNumber r.freed
  pub dead : IsNumber32 r.dead
  pub kept : IsNumber32 r.kept

abbrev pub IsThread : ℕ → Type 0
IsThread t = t < MOST_THREADS

abbrev pub IsEvent : Event → Type 0
IsEvent (Did t c answer) = IsThread t × IsInRange c × IsAnswer answer × (may_answer c answer ≡ true)
IsEvent (Opened t ty first k) = IsThread t × IsPageNumber first × (1 ≤ k) × (k ≤ MOST_PAGES)
IsEvent (Collected t last passes) = IsThread t × (last ≤ OLDEST_COLLECTED) × AllByRecursion IsPass passes
IsEvent (Ended t) = IsThread t

-- all events, and their number, which the last line tells
pub record AreEvents (h : List Event) : Type 0 where
  pub number : length h < 2 ^ 64
  pub events : AllByRecursion IsEvent h
