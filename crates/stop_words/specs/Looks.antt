-- What the threads of a range showed. This project's own.
use Rattle.std.specs.Prelude.{◌≡◌, ◌+◌, ◌-◌, ◌<◌, ◌≤◌, ℕ, suc, true, false, Option, None, Some}
use Rattle.heap_terms.specs.WordMachine.{has}
use Rattle.stop_words.specs.declared.view.View.{View}
use Rattle.stop_words.specs.Places.{is_in}
use Rattle.stop_words.specs.Gathers.{OnlyLooked}

-- the threads from a to k were seen parked, in as many steps
pub record SeenTo (a k : ℕ) (v w : View) : Type 0 where
  pub looked : OnlyLooked v w
  pub seen_all : (u : ℕ) → a ≤ u → u < k → is_in u w.seen ≡ true
  pub steps : w.steps ≡ v.steps + (k - a)

-- u was looked at last, and had not parked
pub record StoppedAt (a b u : ℕ) (v w : View) : Type 0 where
  pub looked : OnlyLooked v w
  pub range : (a ≤ u) × (u < b)
  pub seen_below : (k : ℕ) → a ≤ k → k < u → is_in k w.seen ≡ true
  pub latest : (w.word ≡ suc u) × (has 4 w.found ≡ false) × (w.left ≡ w.found)
  pub steps : w.steps ≡ v.steps + (u + 1 - a)

-- all threads from a to b were seen parked, or one was not
abbrev pub LookedOver : ℕ → ℕ → View → View → Option ℕ → Type 0
LookedOver a b v w None = SeenTo a b v w
LookedOver a b v w (Some u) = StoppedAt a b u v w
