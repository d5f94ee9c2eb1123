-- What a look-up in a table tells a World, and what it answers.
use Rattle.std.specs.Prelude.{◌≡◌, ℕ, Bool, true, false, List, Option, Some, None}
use Rattle.eq_index.specs.declared.inserting.Inserted.{Inserted}
use Rattle.eq_index.specs.declared.inserting.Inserted.TheVariants as kinds_of_insert
use Rattle.heap_terms.specs.declared.answers.Answer.{Answer}
use Rattle.heap_terms.specs.declared.answers.Answer.TheVariants as answers
use Rattle.heap_terms.specs.declared.answers.Refusal.TheVariants.{TableFull}
use Rattle.heap_terms.specs.declared.cells.Cell.{Cell}
use Rattle.heap_terms.specs.declared.cells.Value.{Value}
use Rattle.heap_terms.specs.Cells.{cell_value}
use Rattle.heap_terms.specs.Heap.{NamedHeap}
use Rattle.heap_terms.specs.Objects.{Object}
use Rattle.heap_terms.specs.Pairs.{value_at}
use Rattle.heap_terms.specs.Referents.{Table, table_at}
use Rattle.heap_terms.specs.WellFormed.{IsLiving}
use Rattle.heap_terms.specs.Spelling.{word_of}

-- the word of a living value, if there is one
abbrev pub IsWordOfFound : List (Option Object) → Option Value → Option ℕ → Type 0
IsWordOfFound objects None None = Unit {0}
IsWordOfFound objects None (Some word) = ⊥
IsWordOfFound objects (Some v) None = ⊥
IsWordOfFound objects (Some v) (Some word) = IsLiving objects v × (word ≡ word_of objects v)

-- in the table to which cell c of thread t refers, this word is that of the value of the key in k
pub record IsFound (a : NamedHeap) (t : ℕ) (c k : Cell) (found : Option ℕ) : Type 0 where
  pub table : Table
  pub there : table_at a.objects (cell_value a t c) ≡ Some table
  pub word_is : IsWordOfFound a.objects (value_at table.pairs (cell_value a t k)) found

-- what `tput` answers
abbrev pub answer_after_insert : Inserted → Answer
answer_after_insert kinds_of_insert.Added = answers.Done
answer_after_insert kinds_of_insert.Replaced = answers.Done
answer_after_insert kinds_of_insert.Full = answers.Refused TableFull

-- what `trem` answers
abbrev pub answer_after_remove : Bool → Answer
answer_after_remove true = answers.Yes
answer_after_remove false = answers.No
