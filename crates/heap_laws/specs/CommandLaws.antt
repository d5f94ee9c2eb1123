-- What a user expects of commands, over every heap and every history.
use Rattle.std.specs.Prelude.{◌≡◌, ◌≢◌, ℕ, List, length, Option, Some, None, slice_get, option_map, option_and_then}
use Rattle.std.specs.List.{filter_map, range_with_len}
use Rattle.heap_terms.specs.declared.answers.Answer.{Answer}
use Rattle.heap_terms.specs.declared.answers.Answer.TheVariants as answers
use Rattle.heap_terms.specs.declared.answers.Refusal.{Refusal}
use Rattle.heap_terms.specs.declared.cells.Cell.{Cell}
use Rattle.heap_terms.specs.declared.cells.Value.{Value}
use Rattle.heap_terms.specs.declared.cells.Value.TheVariants.{Ref}
use Rattle.heap_terms.specs.declared.commands.Command.{Command}
use Rattle.heap_terms.specs.declared.commands.Command.TheVariants.{NewCons, Get, Put}
use Rattle.heap_terms.specs.declared.events.Event.{Event}
use Rattle.heap_terms.specs.declared.events.Event.TheVariants.{Did, Opened, Collected, Ended}
use Rattle.heap_terms.specs.declared.kinds.Kind.{Kind}
use Rattle.heap_terms.specs.declared.programs.Program.{Program}
use Rattle.heap_terms.specs.Cells.{cell_value}
use Rattle.heap_terms.specs.Heap.{NamedHeap, object_at, thread_at}
use Rattle.heap_terms.specs.Histories.{IsNext, after, advance, Lawful, replay}
use Rattle.heap_terms.specs.Objects.{Object, ConsOf, kind_of}
use Rattle.heap_terms.specs.Referents.{fields_at}
use Rattle.heap_terms.specs.Valid.{IsValid}

-- after a `put` that is done, whoever gets that field of that object, through whatever cell, is answered the value that
-- was put
abbrev pub FieldsHoldWhatWasPut : Type 0
FieldsHoldWhatWasPut = (p : Program) (a : NamedHeap) (t : ℕ) (c : Cell) (i : ℕ) (b : Cell) → IsNext p a (Did t (Put c i b) answers.Done) →
    (u : ℕ) (d e : Cell) (answer : Answer) → cell_value (after p a (Did t (Put c i b) answers.Done)) u e ≡ cell_value a t c →
    IsNext p (after p a (Did t (Put c i b) answers.Done)) (Did u (Get d e i) answer) → answer ≡ answers.Val (cell_value a t b)

-- field i of the object of a name, if it is there and has one
abbrev pub field_at : List (Option Object) → ℕ → ℕ → Option Value
field_at objects name i = option_and_then (λ fields. slice_get fields i) (fields_at objects (Ref name))

-- the kind of an object that is there
abbrev pub kind_at : List (Option Object) → ℕ → Option Kind
kind_at objects name = option_map (λ (o : Object). kind_of o.contents) (object_at objects name)

-- and where it lies
abbrev pub place_at : List (Option Object) → ℕ → Option ℕ
place_at objects name = option_map (λ (o : Object). o.place) (object_at objects name)

-- between two heaps nothing has changed but perhaps field i of the object that a value refers to
pub record LeavesTheRest (a b : NamedHeap) (at : Value) (i : ℕ) : Type 0 where
  pub pages : b.pages ≡ a.pages
  pub cells : (u : ℕ) (c : Cell) → cell_value b u c ≡ cell_value a u c
  pub raws : (u : ℕ) → (thread_at b u).raws ≡ (thread_at a u).raws
  pub pins : (u : ℕ) → (thread_at b u).pins ≡ (thread_at a u).pins
  pub objects : (name : ℕ) → at ≢ Ref name → object_at b.objects name ≡ object_at a.objects name
  pub fields : (name j : ℕ) → j ≢ i → field_at b.objects name j ≡ field_at a.objects name j
  pub kinds : (name : ℕ) → kind_at b.objects name ≡ kind_at a.objects name
  pub places : (name : ℕ) → place_at b.objects name ≡ place_at a.objects name

-- a `put` leaves every other field, object, cell and page as it was
abbrev pub PutsLeaveTheRest : Type 0
PutsLeaveTheRest = (p : Program) (a : NamedHeap) (t : ℕ) (c : Cell) (i : ℕ) (b : Cell) (answer : Answer) → IsNext p a (Did t (Put c i b) answer) →
    LeavesTheRest a (after p a (Did t (Put c i b) answer)) (cell_value a t c) i

-- a new cons has the name and the place of the answer, is of generation 0 and holds its operands as they were before,
-- and the destination refers to it
abbrev pub NewConsesHoldTheirOperands : Type 0
NewConsesHoldTheirOperands = (p : Program) (h : List Event) (t : ℕ) (d x y : Cell) (name index : ℕ) → IsValid p → Lawful p h →
    IsNext p (replay p h) (Did t (NewCons d x y) (answers.Placed name index)) →
    (object_at (after p (replay p h) (Did t (NewCons d x y) (answers.Placed name index))).objects name
    ≡ Some (record { generation = 0; place = index; contents = ConsOf (cell_value (replay p h) t x) (cell_value (replay p h) t y) }))
    × (cell_value (after p (replay p h) (Did t (NewCons d x y) (answers.Placed name index))) t d ≡ Ref name)

-- the name that an answer gives
abbrev pub name_in_answer : Answer → Option ℕ
name_in_answer answers.Done = None
name_in_answer (answers.Val v) = None
name_in_answer (answers.Word w) = None
name_in_answer answers.Yes = None
name_in_answer answers.No = None
name_in_answer answers.Absent = None
name_in_answer (answers.Live v) = None
name_in_answer answers.Broken = None
name_in_answer (answers.Count n) = None
name_in_answer (answers.Ran ids) = None
name_in_answer (answers.Page view) = None
name_in_answer (answers.Stat allocated cum num) = None
name_in_answer (answers.Placed name index) = Some name
name_in_answer (answers.Refused why) = None

-- the name that an event gives
abbrev pub name_in : Event → Option ℕ
name_in (Did t c answer) = name_in_answer answer
name_in (Opened t ty first k) = None
name_in (Collected t last passes) = None
name_in (Ended t) = None

-- the names that a history gives, in its order
abbrev pub names_of : List Event → List ℕ
names_of h = filter_map name_in h

-- the commits of a history give the names 0, 1, 2 and so on, and these are all that there are: so no name is given
-- twice, and none was an object's name before
abbrev pub NamesAreFresh : Type 0
NamesAreFresh = (p : Program) (h : List Event) → Lawful p h → names_of h ≡ range_with_len 0 (length (replay p h).objects)

-- a command that is refused leaves the heap as it was, but that its thread is one command further
abbrev pub RefusalsChangeNothing : Type 0
RefusalsChangeNothing = (p : Program) (a : NamedHeap) (t : ℕ) (c : Command) (why : Refusal) → IsNext p a (Did t c (answers.Refused why)) →
    after p a (Did t c (answers.Refused why)) ≡ advance a t
