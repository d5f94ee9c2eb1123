-- Streams in memory: their states, and what a call makes of them. These rules are this project's own.
use Rattle.std.specs.Prelude.{◌≡◌, ℕ, ◌-◌, min, List, ◌++◌, length, drop, ◌⊎◌, Contains}
use Rattle.heap_io.specs.Streams.{next_count}

-- a source in memory: the bytes that were not yet taken, the most that one call passes, the numbers
-- of the calls that fail, the number of the next call, and the count of faults
pub record SourceState : Type 0 where
  pub left : List ℕ
  pub most : ℕ
  pub fails : List ℕ
  pub call : ℕ
  pub faults : ℕ

-- a sink in memory: the bytes appended so far, the most that it holds, and the rest as of a source
pub record SinkState : Type 0 where
  pub bytes : List ℕ
  pub size : ℕ
  pub most : ℕ
  pub fails : List ℕ
  pub call : ℕ
  pub faults : ℕ

-- how many bytes a call of a source passes to a buffer of this length
abbrev pub passed : SourceState → ℕ → ℕ
passed s room = min s.most (min room (length s.left))

-- the source after a call that passed this many bytes
abbrev pub source_after : SourceState → ℕ → SourceState
source_after s k = record s { left = drop k s.left; call = next_count s.call }

-- the source after a call that failed
abbrev pub source_failed : SourceState → SourceState
source_failed s = record s { call = next_count s.call; faults = next_count s.faults }

-- how many bytes of a piece of this length a call of a sink appends
abbrev pub appended : SinkState → ℕ → ℕ
appended s offered = min s.most (min offered (s.size - length s.bytes))

-- the sink after a call that appended these bytes
abbrev pub sink_after : SinkState → List ℕ → SinkState
sink_after s bytes = record s { bytes = s.bytes ++ bytes; call = next_count s.call }

-- the sink after a call that failed
abbrev pub sink_failed : SinkState → SinkState
sink_failed s = record s { call = next_count s.call; faults = next_count s.faults }

-- a call of a sink fails: its number stands in the list, or the sink is full
abbrev pub SinkFails : SinkState → Type 0
SinkFails s = Contains s.fails s.call ⊎ (length s.bytes ≡ s.size)
