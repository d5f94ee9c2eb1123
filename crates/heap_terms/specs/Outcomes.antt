-- The table of outcomes: what each command comes to, but for the thread's place in its script. The commands are this
-- project's own; each topic says what it takes from SBCL. Nothing is left free. A command that allocates stands here
-- with what it comes to where its object finds no room and no run of free pages: it is refused and changes nothing.
pub mod CellCommands
pub mod FieldCommands
pub mod RawCommands
pub mod PinCommands
pub mod WeakCommands
pub mod TableCommands
pub mod FinalizerCommands
pub mod CollectionCommands
pub mod PageCommands
use Rattle.std.specs.Prelude.{ℕ}
use Rattle.heap_terms.specs.declared.answers.Refusal.TheVariants.{Exhausted}
use Rattle.heap_terms.specs.declared.commands.Command.{Command}
use Rattle.heap_terms.specs.declared.commands.Command.TheVariants.{Fix, MakeNil, Move, NewCons, NewVector, NewInstance, NewClosure, NewWords, NewWeak, NewTable, Get, Put, RawGet, RawPut, Same, Show, Addr, SetRaw, AddRaw, Pin, Unpin, WeakVal, TablePut, TableGet, TableRem, TableCount, Finalize, Cancel, RunFinalizers, Collect, Inhibit, Allow, ShowPage, Stat}
use Rattle.heap_terms.specs.Heap.{NamedHeap}
use Rattle.heap_terms.specs.Outcome.{Outcome, refused}
use Rattle.heap_terms.specs.Outcomes.CellCommands.{fixing, making_nil, moving, comparing, showing}
use Rattle.heap_terms.specs.Outcomes.CollectionCommands.{asking, inhibiting, allowing, counting_words}
use Rattle.heap_terms.specs.Outcomes.FieldCommands.{getting, putting}
use Rattle.heap_terms.specs.Outcomes.FinalizerCommands.{finalizing, cancelling, running_finalizers}
use Rattle.heap_terms.specs.Outcomes.PageCommands.{viewing}
use Rattle.heap_terms.specs.Outcomes.PinCommands.{pinning, unpinning}
use Rattle.heap_terms.specs.Outcomes.RawCommands.{addressing, setting_raw, adding_raw, getting_raw, putting_raw}
use Rattle.heap_terms.specs.Outcomes.TableCommands.{table_putting, table_getting, table_removing, table_counting}
use Rattle.heap_terms.specs.Outcomes.WeakCommands.{weak_getting}

-- what thread t's command comes to
unfoldable pub outcome_of : NamedHeap → ℕ → Command → Outcome
outcome_of a t (Fix d n) = fixing a t d n
outcome_of a t (MakeNil d) = making_nil a t d
outcome_of a t (Move d c) = moving a t d c
outcome_of a t (NewCons d x y) = refused Exhausted a
outcome_of a t (NewVector d n) = refused Exhausted a
outcome_of a t (NewInstance d n) = refused Exhausted a
outcome_of a t (NewClosure d n) = refused Exhausted a
outcome_of a t (NewWords d n w) = refused Exhausted a
outcome_of a t (NewWeak d c) = refused Exhausted a
outcome_of a t (NewTable d w b) = refused Exhausted a
outcome_of a t (Get d c i) = getting a t d c i
outcome_of a t (Put c i b) = putting a t c i b
outcome_of a t (RawGet r c i) = getting_raw a t r c i
outcome_of a t (RawPut c i r) = putting_raw a t c i r
outcome_of a t (Same x y) = comparing a t x y
outcome_of a t (Show c) = showing a t c
outcome_of a t (Addr r c) = addressing a t r c
outcome_of a t (SetRaw r w) = setting_raw a t r w
outcome_of a t (AddRaw r k) = adding_raw a t r k
outcome_of a t (Pin c) = pinning a t c
outcome_of a t Unpin = unpinning a t
outcome_of a t (WeakVal d c) = weak_getting a t d c
outcome_of a t (TablePut c k v) = table_putting a t c k v
outcome_of a t (TableGet d c k) = table_getting a t d c k
outcome_of a t (TableRem c k) = table_removing a t c k
outcome_of a t (TableCount c) = table_counting a t c
outcome_of a t (Finalize c id) = finalizing a t c id
outcome_of a t (Cancel c) = cancelling a t c
outcome_of a t RunFinalizers = running_finalizers a
outcome_of a t (Collect g) = asking a t g
outcome_of a t Inhibit = inhibiting a t
outcome_of a t Allow = allowing a t
outcome_of a t (ShowPage p) = viewing a p
outcome_of a t (Stat g) = counting_words a g
