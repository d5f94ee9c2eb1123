-- What the end of tracing comes to: a lawful record of a pass, whose heap has the words that are settled.
use Rattle.std.specs.Prelude.{◌≡◌, ℕ, ◌+◌, ◌≤◌, ◌↔◌, List, length, map, count_by, All, true}
use Rattle.heap_terms.specs.declared.cells.Value.{Value}
use Rattle.heap_terms.specs.declared.events.PassRecord.{PassRecord}
use Rattle.heap_terms.specs.declared.events.PinAt.{PinAt}
use Rattle.heap_terms.specs.declared.limits.TheConstants.{OLDEST_GENERATION}
use Rattle.heap_terms.specs.Generations.{is_of, names}
use Rattle.heap_terms.specs.Heap.{NamedHeap}
use Rattle.heap_terms.specs.Live.{is_live}
use Rattle.heap_terms.specs.Passes.{IsPass, after_pass, remains}
use Rattle.heap_terms.specs.Spelling.{word_of}
use Rattle.copy_space.specs.Moved.{noted}
use Rattle.copy_space.specs.Settled.{is_settled, word_now}
use Rattle.copy_space.specs.State.{CopyState}
use Rattle.trace_laws.specs.Noted.{IsMoveOf, IsPinOf}
use Rattle.pass_laws.specs.Reached.{HasName}
use Rattle.trace_laws.specs.Rooted.{Rooted, IsExactRoot}
use Rattle.trace_laws.specs.Traced.{IsTraced}

-- A record of a pass with this target that the copier's moves and pins tell. What remains is what is settled, and it has
-- the words that are so now. The pins and the moves are all that remains of the generation.
pub record IsEnd (a : NamedHeap) (s : CopyState) (target : ℕ) (r : PassRecord) : Type 0 where
  pub is_pass : IsPass a s.pass.generation target r
  pub moves : s.moves ≡ map noted r.moves
  pub moved : All (IsMoveOf a) r.moves
  pub pins : s.pins ≡ map (λ (q : PinAt). q.index) r.pins
  pub pinned : All (IsPinOf a) r.pins
  pub remains_are : (name : ℕ) → remains a r name ≡ is_settled a s name
  pub words : (v : Value) → is_live (is_settled a s) v ≡ true → word_of (after_pass a r).objects v ≡ word_now a s v
  pub kept : r.kept ≡ length s.pins + length s.moves
  pub dead : r.dead + r.kept ≡ count_by (is_of a s.pass.generation) (names a)

-- tracing always comes to that, where the values of the exact roots have the names that are in exact cells
abbrev pub TracesEnd : Type 0
TracesEnd = (h : Rooted) (s : CopyState) (exact : List ℕ) (target : ℕ) → ((name : ℕ) → IsExactRoot h.heap name ↔ HasName h.values name) →
    IsTraced h s exact → target ≤ OLDEST_GENERATION → (r : PassRecord) × IsEnd h.heap s target r
