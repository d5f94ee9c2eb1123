-- What the readers of single fields answer.
use Rattle.std.specs.Prelude.{◌≡◌, ℕ, ◌-◌, ◌^◌, ◌<◌, min, List, take, drop, Some, Result, Ok, replicate}
use Rattle.heap_terms.specs.declared.faults.Why.{Why}
use Rattle.heap_terms.specs.Fields.{◌>>=◌, ranged, at_least, number_of}
use Rattle.script_text.specs.declared.turns.Turns.{Turns}
use Rattle.script_text.specs.Left.{field_len}

-- a number of pages, as a `u64` holds it: any above its end passes the limit as the end does
abbrev pub pages_of : List ℕ → Result ℕ Why
pages_of field = ranged (at_least 1) (number_of field) >>= λ n. Ok (min n (2 ^ 64 - 1))

-- the turns that a reader found, one by one
abbrev pub one_by_one : Result Turns Why → Result (List ℕ) Why
one_by_one found = found >>= λ t. Ok (replicate t.count t.thread)

-- a number stands at the front, of fewer than 19 digits up to the end of its field, and these are the bytes after it
pub record NumberAt (bytes : List ℕ) (value : ℕ) (after : List ℕ) : Type 0 where
  pub len : ℕ
  pub some : 0 < len
  pub field : len ≡ field_len bytes
  pub says : number_of (take len bytes) ≡ Some value
  pub small : value < 1000000000000000000
  pub rest : after ≡ drop len bytes
