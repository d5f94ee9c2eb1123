-- What stands in the record of a pass of a lawful history: numbers in the ranges that a journal has for them. The ranges
-- are this project's own. Left free is everything but the ranges.
use Rattle.std.specs.Prelude.{ℕ, ◌≤◌, ◌<◌, ◌^◌, All, Option, Some, None}
use Rattle.heap_terms.specs.declared.cells.Value.{Value}
use Rattle.heap_terms.specs.declared.cells.Value.TheVariants.{Fix, Nil, Unbound, Ref}
use Rattle.heap_terms.specs.declared.events.Cull.{Cull}
use Rattle.heap_terms.specs.declared.events.PassRecord.{PassRecord}
use Rattle.heap_terms.specs.declared.events.PinAt.{PinAt}
use Rattle.heap_terms.specs.declared.events.Placing.{Placing}
use Rattle.heap_terms.specs.declared.limits.TheConstants.{MOST_COMMANDS, MOST_WORDS, MOST_PAGES, OLDEST_COLLECTED, OLDEST_GENERATION}
use Rattle.heap_terms.specs.Valid.{IsFixnum}

-- a name, an index of a word and a number of a page
abbrev pub IsName : ℕ → Type 0
IsName name = name < MOST_COMMANDS

abbrev pub IsIndex : ℕ → Type 0
IsIndex index = index < MOST_WORDS

abbrev pub IsPageNumber : ℕ → Type 0
IsPageNumber page = page < MOST_PAGES

-- the new index of a move; a stay has none
abbrev pub IsNewIndex : Option ℕ → Type 0
IsNewIndex None = Unit {0}
IsNewIndex (Some index) = IsIndex index

-- a side of a culled pair
abbrev pub IsSide : Value → Type 0
IsSide (Fix n) = IsFixnum n
IsSide Nil = Unit {0}
IsSide Unbound = ⊥
IsSide (Ref name) = IsName name

-- all numbers of a record are in their ranges
pub record IsPlainRecord (r : PassRecord) : Type 0 where
  pub generation : r.generation ≤ OLDEST_COLLECTED
  pub target : r.target ≤ OLDEST_GENERATION
  pub moves : All (λ (m : Placing). IsName m.name × IsIndex m.old × IsNewIndex m.new) r.moves
  pub pins : All (λ (q : PinAt). IsName q.name × IsIndex q.index) r.pins
  pub culls : All (λ (k : Cull). IsName k.table × IsSide k.key × IsSide k.value) r.culls
  pub breaks : All IsName r.breaks
  pub queued : All (λ id. id < 2 ^ 32) r.queued
  pub freed : All IsPageNumber r.freed
  pub dead : r.dead < 2 ^ 32
  pub kept : r.kept < 2 ^ 32
