-- One script has one journal.
use Rattle.std.specs.Prelude.{◌≡◌, ℕ, List, map, All, Bool, true, false}
use Rattle.std.specs.List.{filter}
use Rattle.heap_terms.specs.declared.events.Event.{Event}
use Rattle.heap_terms.specs.declared.events.Event.TheVariants.{Did, Opened, Collected, Ended}
use Rattle.heap_terms.specs.declared.programs.Program.{Program}
use Rattle.heap_terms.specs.declared.steps.ReplayLine.{ReplayLine}
use Rattle.heap_terms.specs.Runs.{IsRun}
use Rattle.heap_terms.specs.Text.{journal_text}
use Rattle.heap_terms.specs.WordText.{run_text}
use Rattle.heap_laws.specs.Order.{orders_of}

-- whether an event is a collection
abbrev pub is_collection : Event → Bool
is_collection (Did t c answer) = false
is_collection (Opened t ty first k) = false
is_collection (Collected t last passes) = true
is_collection (Ended t) = false

-- the orders in which the collections of a history took their names, collection after collection
abbrev pub orders_in : List Event → List (List (List ℕ))
orders_in h = map orders_of (filter is_collection h)

-- no collection is among these events
abbrev pub HasNoCollection : List Event → Type 0
HasNoCollection h = All (λ e. is_collection e ≡ false) h

-- two runs have one history, the same lines, and one text, with word steps and without
pub record IsSameRun (lines more : List ReplayLine) (h g : List Event) : Type 0 where
  pub history : h ≡ g
  pub lines_are : lines ≡ more
  pub journal : journal_text h ≡ journal_text g
  pub text : run_text h lines ≡ run_text g more

-- one script and the orders in which its collections took their names have one run, and so one journal; where there
-- are no collections the script alone has one
abbrev pub OneScriptOneJournal : Type 0
OneScriptOneJournal =
    ((p : Program) (lines more : List ReplayLine) (h g : List Event) → IsRun p lines h → IsRun p more g → orders_in h ≡ orders_in g → IsSameRun lines more h g)
    × ((p : Program) (lines more : List ReplayLine) (h g : List Event) → IsRun p lines h → IsRun p more g → HasNoCollection h → HasNoCollection g →
    IsSameRun lines more h g)
