-- What a call does to a stream's bytes and to its count of faults. These rules are this project's own.
-- A stream's contents are optional: `Some` of the bytes, or `None` where the stream doesn't tell them.
use Rattle.std.specs.Prelude.{◌≡◌, ℕ, ◌+◌, ◌-◌, ◌^◌, ◌<◌, ◌≤◌, ◌⊎◌, min, List, [], ◌++◌, length, Some}
use Rattle.std.specs.declared.option.Option.{Option}

-- What contracts see of a stream: its contents, where it tells them, and how often it has failed. The contents of a
-- source are the bytes that were not yet taken, those of a sink the bytes that were appended so far.
pub record Stream : Type 0 where
  pub contents : Option (List ℕ)
  pub faults : ℕ

-- one more, or the same at the last number of a u64
abbrev pub next_count : ℕ → ℕ
next_count n = min (n + 1) (2 ^ 64 - 1)

-- A count of faults rose in a call.
-- One that stood at its last number when the call began is said to have risen.
abbrev pub Rose : ℕ → ℕ → Type 0
Rose old new = (old < new) ⊎ (old ≡ 2 ^ 64 - 1)

-- told contents began with these bytes, and are told as the rest of them
abbrev pub Gave : Option (List ℕ) → Option (List ℕ) → List ℕ → Type 0
Gave old new bytes =
    (xs : List ℕ) → old ≡ Some xs → (rest : List ℕ) × (xs ≡ bytes ++ rest) × (new ≡ Some rest)

-- told contents were just these bytes, and none is left
abbrev pub GaveAll : Option (List ℕ) → Option (List ℕ) → List ℕ → Type 0
GaveAll old new bytes = (xs : List ℕ) → old ≡ Some xs → (bytes ≡ xs) × (new ≡ Some [])

-- the front of told contents was taken, more than this many bytes, and the rest of them is told
abbrev pub GaveMore : Option (List ℕ) → Option (List ℕ) → ℕ → Type 0
GaveMore old new limit =
    (xs : List ℕ) → old ≡ Some xs
    → (bytes : List ℕ) × (rest : List ℕ) × (xs ≡ bytes ++ rest) × (new ≡ Some rest) × (limit < length bytes)

-- the front of told contents was taken, at most this many bytes, and the rest of them is told
abbrev pub GaveAtMost : Option (List ℕ) → Option (List ℕ) → ℕ → Type 0
GaveAtMost old new limit =
    (xs : List ℕ) → old ≡ Some xs
    → (bytes : List ℕ) × (rest : List ℕ) × (xs ≡ bytes ++ rest) × (new ≡ Some rest) × (length bytes ≤ limit)

-- told contents grew by these bytes at their end, and are still told
abbrev pub Grew : Option (List ℕ) → Option (List ℕ) → List ℕ → Type 0
Grew old new bytes = (xs : List ℕ) → old ≡ Some xs → new ≡ Some (xs ++ bytes)
