-- What stands in the events of a valid program: the commands that are built, and numbers in their ranges.
use Rattle.std.specs.Prelude.{◌≡◌, ℕ, ◌<◌, ◌≤◌, ◌^◌, List, [], ◌∷◌, All, Option, Some, None}
use Rattle.std.specs.List.{AllByRecursion}
use Rattle.heap_terms.specs.declared.answers.Answer.{Answer}
use Rattle.heap_terms.specs.declared.answers.Answer.TheVariants.{Done, Val, Word, Yes, No, Absent, Live, Broken, Count, Ran, Page, Stat, Placed, Refused}
use Rattle.heap_terms.specs.declared.answers.Item.{Item}
use Rattle.heap_terms.specs.declared.answers.PageView.{PageView}
use Rattle.heap_terms.specs.declared.answers.PageView.TheVariants as views
use Rattle.heap_terms.specs.declared.cells.Value.{Value}
use Rattle.heap_terms.specs.declared.cells.Value.TheVariants.{Fix, Nil, Unbound, Ref}
use Rattle.heap_terms.specs.declared.events.Event.{Event}
use Rattle.heap_terms.specs.declared.events.Event.TheVariants.{Did, Opened, Collected, Ended}
use Rattle.heap_terms.specs.declared.limits.TheConstants.{MOST_COMMANDS, MOST_PAGES, MOST_THREADS, MOST_WORDS, OLDEST_COLLECTED, PAGE_WORDS}
use Rattle.pass_laws.specs.PlainRecords.{IsPlainRecord}
use Rattle.heap_terms.specs.Valid.{IsFixnum, IsCommand}

-- a value that a cell can hold, with one of at most 20,000 names
abbrev pub IsPlainValue : Value → Type 0
IsPlainValue (Fix n) = IsFixnum n
IsPlainValue Nil = Unit {0}
IsPlainValue Unbound = ⊥
IsPlainValue (Ref name) = name < MOST_COMMANDS

-- an item of a page: an object has no count, and words of no object are one at least
abbrev pub IsPlainItemOf : Option ℕ → ℕ → Type 0
IsPlainItemOf None count = (1 ≤ count) × (count < 2 ^ 32)
IsPlainItemOf (Some name) count = (name < MOST_COMMANDS) × (count ≡ 0)

abbrev pub IsPlainItem : Item → Type 0
IsPlainItem item = IsPlainItemOf item.name item.count × (item.index < MOST_WORDS)

-- a page as it is shown, of a generation that is collected
abbrev pub IsPlainView : PageView → Type 0
IsPlainView views.Free = Unit {0}
IsPlainView (views.Small ty g fill items) = (g ≤ OLDEST_COLLECTED) × (fill ≤ PAGE_WORDS) × AllByRecursion IsPlainItem items
IsPlainView (views.Large ty g pages name index) = (g ≤ OLDEST_COLLECTED) × (pages ≤ MOST_PAGES) × (name < MOST_COMMANDS) × (index < MOST_WORDS)

-- some ids of finalizers
abbrev pub ArePlainIds : List ℕ → Type 0
ArePlainIds [] = ⊥
ArePlainIds (id ∷ ids) = AllByRecursion (λ n. n < 2 ^ 32) (id ∷ ids)

-- the answers of the commands that are built; a raw word has 64 bits, and an index is that of one of at most 1,024 pages' words
abbrev pub IsPlainAnswer : Answer → Type 0
IsPlainAnswer Done = Unit {0}
IsPlainAnswer (Val v) = IsPlainValue v
IsPlainAnswer (Word w) = w < 2 ^ 64
IsPlainAnswer Yes = Unit {0}
IsPlainAnswer No = Unit {0}
IsPlainAnswer Absent = Unit {0}
IsPlainAnswer (Live v) = IsPlainValue v
IsPlainAnswer Broken = Unit {0}
IsPlainAnswer (Count n) = n < 2 ^ 64
IsPlainAnswer (Ran ids) = ArePlainIds ids
IsPlainAnswer (Page view) = IsPlainView view
IsPlainAnswer (Stat allocated cum num) = (allocated < 2 ^ 64) × (cum < 2 ^ 64) × (num < 2 ^ 32)
IsPlainAnswer (Placed name index) = (name < MOST_COMMANDS) × (index < MOST_WORDS)
IsPlainAnswer (Refused why) = Unit {0}

-- an event of one of at most 8 threads: with a command and an answer as above, or with the records of a collection's passes
abbrev pub IsPlain : Event → Type 0
IsPlain (Did t c answer) = (t < MOST_THREADS) × IsCommand c × IsPlainAnswer answer
IsPlain (Opened t ty first k) = (t < MOST_THREADS) × (first < MOST_PAGES) × (1 ≤ k) × (k ≤ MOST_PAGES)
IsPlain (Collected t last passes) = (t < MOST_THREADS) × (last ≤ OLDEST_COLLECTED) × All IsPlainRecord passes
IsPlain (Ended t) = t < MOST_THREADS
