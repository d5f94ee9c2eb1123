-- The pins of all threads.
use Rattle.std.specs.Prelude.{ℕ, ◌-◌, ◌<◌, List, [], ◌∷◌, ◌++◌, length, take, slice_index_or, slice_set}
use Rattle.heap_terms.specs.declared.limits.TheConstants.{MOST_PINS}

-- a list without its last element
abbrev pub but_last : List ℕ → List ℕ
but_last words = take (length words - 1) words

-- the pins after a word was put on thread t's
abbrev pub with_pin_pushed : List (List ℕ) → ℕ → ℕ → List (List ℕ)
with_pin_pushed pins t word = slice_set pins t (slice_index_or pins t [] ++ word ∷ [])

-- the pins after the last of thread t's was taken off
abbrev pub with_pin_popped : List (List ℕ) → ℕ → List (List ℕ)
with_pin_popped pins t = slice_set pins t (but_last (slice_index_or pins t []))

-- the pins after all of thread t's were taken off
abbrev pub with_pins_cleared : List (List ℕ) → ℕ → List (List ℕ)
with_pins_cleared pins t = slice_set pins t []

-- thread t is there and has room for one pin more
pub record HasPinRoom (pins : List (List ℕ)) (t : ℕ) : Type 0 where
  pub thread : t < length pins
  pub room : length (slice_index_or pins t []) < MOST_PINS
