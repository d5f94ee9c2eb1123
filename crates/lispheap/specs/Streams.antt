-- What a call did to a stream.
use Rattle.std.specs.Prelude.{◌≡◌, ◌≢◌, ℕ, List, [], ◌++◌}
use Rattle.heap_io.specs.Streams.{Stream, Rose, Grew}

-- what a call did to a stream: what contracts see of it before the call and after it
pub record Change : Type 0 where
  pub old : Stream
  pub new : Stream

abbrev pub change : Stream → Stream → Change
change old new = record { old = old; new = new }

-- the stream was not touched
pub record IsUntouched (c : Change) : Type 0 where
  pub bytes : c.new.contents ≡ c.old.contents
  pub faults : c.new.faults ≡ c.old.faults

-- the stream's count of faults rose
abbrev pub Failed : Change → Type 0
Failed c = Rose c.old.faults c.new.faults

-- a text was appended to a stream, all of it, and no call of the stream failed
pub record SaysAll (text : List ℕ) (c : Change) : Type 0 where
  pub appended : Grew c.old.contents c.new.contents text
  pub quiet : c.new.faults ≡ c.old.faults

-- a stream stopped within a text: a proper front of it was appended, and the count of faults rose
pub record StopsWithin (text : List ℕ) (c : Change) : Type 0 where
  pub front : List ℕ
  pub rest : List ℕ
  pub whole : text ≡ front ++ rest
  pub proper : rest ≢ []
  pub appended : Grew c.old.contents c.new.contents front
  pub rose : Failed c
