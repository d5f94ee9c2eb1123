-- What the holder of the turn knows after looking at the other threads, and after it took their stops back. This
-- project's own.
use Rattle.std.specs.Prelude.{◌≡◌, ◌≢◌, ◌+◌, ◌-◌, ◌<◌, ◌≤◌, ◌⊎◌, ℕ, suc, true, false, []}
use Rattle.heap_terms.specs.WordMachine.{has}
use Rattle.stop_words.specs.declared.view.Place.TheVariants.{Outside}
use Rattle.stop_words.specs.declared.view.View.{View}
use Rattle.stop_words.specs.Places.{is_in}
use Rattle.stop_words.specs.Views.{SeenAll, others_below}

-- Steps that only looked: the view is the same but for the threads that were seen, of which there may be more, the
-- count of steps and the latest step
pub record OnlyLooked (v w : View) : Type 0 where
  pub thread : w.thread ≡ v.thread
  pub place : w.place ≡ v.place
  pub posted : w.posted ≡ v.posted
  pub given : w.given ≡ v.given
  pub more : (u : ℕ) → is_in u v.seen ≡ true → is_in u w.seen ≡ true

-- each of the other threads was looked at once and seen parked
pub record AllSeen (threads : ℕ) (v w : View) : Type 0 where
  pub looked : OnlyLooked v w
  pub seen_all : SeenAll w threads
  pub steps : w.steps ≡ v.steps + others_below v.thread threads

-- the others below u were looked at and seen parked, and then u, which had not parked
pub record Unseen (threads u : ℕ) (v w : View) : Type 0 where
  pub looked : OnlyLooked v w
  pub other : (u < threads) × (u ≢ v.thread)
  pub seen_below : (k : ℕ) → k < u → k ≢ v.thread → is_in k w.seen ≡ true
  pub latest : (w.word ≡ suc u) × (has 4 w.found ≡ false) × (w.left ≡ w.found)
  pub steps : w.steps ≡ v.steps + others_below v.thread (u + 1)

-- the stops of all other threads were taken back, in as many steps as there are others, and then the turn was given
-- back
pub record GaveBack (threads : ℕ) (v w : View) : Type 0 where
  pub thread : w.thread ≡ v.thread
  pub place : w.place ≡ Outside
  pub lists : (w.posted ≡ []) × (w.seen ≡ [])
  pub given : w.given ≡ v.given
  pub steps : w.steps ≡ v.steps + threads
  pub latest : (w.word ≡ 0) × (w.found ≡ suc v.thread) × (w.left ≡ 0)

-- the stops of the threads from a to k were taken back, in as many steps, that of the last of them last
pub record PutBack (a k : ℕ) (v w : View) : Type 0 where
  pub thread : w.thread ≡ v.thread
  pub place : w.place ≡ v.place
  pub given : w.given ≡ v.given
  pub posted : (u : ℕ) → (u < a) ⊎ (k ≤ u) → is_in u w.posted ≡ is_in u v.posted
  pub seen : (u : ℕ) → (u < a) ⊎ (k ≤ u) → is_in u w.seen ≡ is_in u v.seen
  pub gone : (u : ℕ) → a ≤ u → u < k → is_in u w.posted ≡ false
  pub steps : w.steps ≡ v.steps + (k - a)
  pub latest : a < k → (w.word ≡ k) × (w.found ≡ 6) × (w.left ≡ 4)
