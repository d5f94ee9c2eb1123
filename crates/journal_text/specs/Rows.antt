-- Which answers a command has. The table is this project's own.
use Rattle.std.specs.Prelude.{ℕ, Bool, ◌==◌, List, [], ◌∷◌}
use Rattle.std.specs.List.{list_any}
use Rattle.heap_terms.specs.declared.answers.Answer.{Answer}
use Rattle.heap_terms.specs.declared.answers.Answer.TheVariants as answers
use Rattle.heap_terms.specs.declared.answers.Refusal.{Refusal}
use Rattle.heap_terms.specs.declared.answers.Refusal.TheVariants as refusals
use Rattle.heap_terms.specs.declared.commands.Command.{Command}
use Rattle.heap_terms.specs.declared.commands.Command.TheVariants.{Fix, MakeNil, Move, NewCons, NewVector, NewInstance, NewClosure, NewWords, NewWeak, NewTable, Get, Put, RawGet, RawPut, Same, Show, Addr, SetRaw, AddRaw, Pin, Unpin, WeakVal, TablePut, TableGet, TableRem, TableCount, Finalize, Cancel, RunFinalizers, Collect, Inhibit, Allow, ShowPage, Stat}
use Rattle.journal_text.specs.declared.parsing.rows.Shape.{Shape}
use Rattle.journal_text.specs.declared.parsing.rows.Shape.TheVariants as shapes

-- the shape of a refusal
abbrev pub refusal_shape : Refusal → Shape
refusal_shape refusals.NotType = shapes.NotType
refusal_shape refusals.OutOfRange = shapes.OutOfRange
refusal_shape refusals.TableFull = shapes.Full
refusal_shape refusals.Exhausted = shapes.Exhausted
refusal_shape refusals.Nothing = shapes.Nothing
refusal_shape refusals.PinsFull = shapes.PinsFull

-- the shape of an answer
abbrev pub shape_of : Answer → Shape
shape_of answers.Done = shapes.Done
shape_of (answers.Val v) = shapes.Value
shape_of (answers.Word w) = shapes.Word
shape_of answers.Yes = shapes.YesOrNo
shape_of answers.No = shapes.YesOrNo
shape_of answers.Absent = shapes.Absent
shape_of (answers.Live v) = shapes.WeakValue
shape_of answers.Broken = shapes.WeakValue
shape_of (answers.Count n) = shapes.Count
shape_of (answers.Ran ids) = shapes.Ran
shape_of (answers.Page view) = shapes.Page
shape_of (answers.Stat allocated cum num) = shapes.Stat
shape_of (answers.Placed name index) = shapes.Placed
shape_of (answers.Refused why) = refusal_shape why

-- the shapes that a command's answers have
abbrev pub shapes_for : Command → List Shape
shapes_for (Fix d n) = shapes.Done ∷ []
shapes_for (MakeNil d) = shapes.Done ∷ []
shapes_for (Move d c) = shapes.Done ∷ []
shapes_for (NewCons d a b) = shapes.Placed ∷ shapes.Exhausted ∷ []
shapes_for (NewVector d n) = shapes.Placed ∷ shapes.Exhausted ∷ []
shapes_for (NewInstance d n) = shapes.Placed ∷ shapes.Exhausted ∷ []
shapes_for (NewClosure d n) = shapes.Placed ∷ shapes.Exhausted ∷ []
shapes_for (NewWords d n w) = shapes.Placed ∷ shapes.Exhausted ∷ []
shapes_for (NewWeak d c) = shapes.Placed ∷ shapes.Exhausted ∷ []
shapes_for (NewTable d w b) = shapes.Placed ∷ shapes.Exhausted ∷ []
shapes_for (Get d c i) = shapes.Value ∷ shapes.NotType ∷ shapes.OutOfRange ∷ []
shapes_for (Put c i a) = shapes.Done ∷ shapes.NotType ∷ shapes.OutOfRange ∷ []
shapes_for (RawGet r c i) = shapes.Word ∷ shapes.NotType ∷ shapes.OutOfRange ∷ []
shapes_for (RawPut c i r) = shapes.Done ∷ shapes.NotType ∷ shapes.OutOfRange ∷ []
shapes_for (Same a b) = shapes.YesOrNo ∷ []
shapes_for (Show c) = shapes.Value ∷ []
shapes_for (Addr r c) = shapes.Word ∷ []
shapes_for (SetRaw r w) = shapes.Done ∷ []
shapes_for (AddRaw r k) = shapes.Word ∷ []
shapes_for (Pin c) = shapes.Done ∷ shapes.PinsFull ∷ []
shapes_for Unpin = shapes.Done ∷ shapes.Nothing ∷ []
shapes_for (WeakVal d c) = shapes.WeakValue ∷ shapes.NotType ∷ []
shapes_for (TablePut c k v) = shapes.Done ∷ shapes.NotType ∷ shapes.Full ∷ []
shapes_for (TableGet d c k) = shapes.Value ∷ shapes.Absent ∷ shapes.NotType ∷ []
shapes_for (TableRem c k) = shapes.YesOrNo ∷ shapes.NotType ∷ []
shapes_for (TableCount c) = shapes.Count ∷ shapes.NotType ∷ []
shapes_for (Finalize c id) = shapes.Done ∷ shapes.NotType ∷ []
shapes_for (Cancel c) = shapes.Count ∷ shapes.NotType ∷ []
shapes_for RunFinalizers = shapes.Ran ∷ shapes.Absent ∷ []
shapes_for (Collect g) = shapes.Done ∷ []
shapes_for Inhibit = shapes.Done ∷ []
shapes_for Allow = shapes.Done ∷ shapes.Nothing ∷ []
shapes_for (ShowPage p) = shapes.Page ∷ shapes.OutOfRange ∷ []
shapes_for (Stat g) = shapes.Stat ∷ []

-- shapes by number, in the order in which they are declared
abbrev pub shape_number : Shape → ℕ
shape_number shapes.Done = 0
shape_number shapes.Value = 1
shape_number shapes.Word = 2
shape_number shapes.YesOrNo = 3
shape_number shapes.Absent = 4
shape_number shapes.WeakValue = 5
shape_number shapes.Count = 6
shape_number shapes.Ran = 7
shape_number shapes.Page = 8
shape_number shapes.Stat = 9
shape_number shapes.Placed = 10
shape_number shapes.NotType = 11
shape_number shapes.OutOfRange = 12
shape_number shapes.Full = 13
shape_number shapes.Exhausted = 14
shape_number shapes.Nothing = 15
shape_number shapes.PinsFull = 16

-- whether a command may answer so
abbrev pub admits : Command → Shape → Bool
admits c shape = list_any (λ s. shape_number s == shape_number shape) (shapes_for c)

abbrev pub may_answer : Command → Answer → Bool
may_answer c answer = admits c (shape_of answer)
