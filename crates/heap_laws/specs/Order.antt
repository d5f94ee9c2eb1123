-- The events of one thread in a history.
use Rattle.std.specs.Prelude.{◌≡◌, ℕ, List, [], ◌∷◌, ◌++◌, map, Option, Some, None, Bool, true, false, ◌==◌}
use Rattle.std.specs.List.{filter, filter_map}
use Rattle.heap_terms.specs.declared.commands.Command.{Command}
use Rattle.heap_terms.specs.declared.events.Event.{Event}
use Rattle.heap_terms.specs.declared.events.Event.TheVariants.{Did, Opened, Collected, Ended}
use Rattle.heap_terms.specs.Histories.{thread_of}
use Rattle.heap_terms.specs.Passes.{order_of}

-- the events of thread t, in their order
abbrev pub events_of : ℕ → List Event → List Event
events_of t h = filter (λ e. thread_of e == t) h

-- the command that an event did
abbrev pub command_in : Event → Option Command
command_in (Did t c answer) = Some c
command_in (Opened t ty first k) = None
command_in (Collected t last passes) = None
command_in (Ended t) = None

-- the commands that thread t did, in their order
abbrev pub commands_of : ℕ → List Event → List Command
commands_of t h = filter_map command_in (events_of t h)

-- whether an event is the end of its thread
abbrev pub is_end : Event → Bool
is_end (Did t c answer) = false
is_end (Opened t ty first k) = false
is_end (Collected t last passes) = false
is_end (Ended t) = true

-- the last event is the end of thread t, and no other event is an end
abbrev pub EndsOnce : ℕ → List Event → Type 0
EndsOnce t events = (front : List Event) × (events ≡ front ++ Ended t ∷ []) × (filter is_end front ≡ [])

-- the orders in which the passes of a collection took their names; other events have none
abbrev pub orders_of : Event → List (List ℕ)
orders_of (Did t c answer) = []
orders_of (Opened t ty first k) = []
orders_of (Collected t last passes) = map order_of passes
orders_of (Ended t) = []
