-- What holds between any two steps on the words. This project's own. The turn is the number of the holder and one more,
-- or 0. The word of a thread tells its place, and whether the holder has posted a stop to it. A parcel lies in the slot
-- of its thread, unless the thread runs or the holder has seen it parked: then a seat has the slot.
use Rattle.std.specs.Prelude.{◌≡◌, ◌≢◌, ◌<◌, ◌≤◌, ◌+◌, ℕ, suc, Bool, true, false, Option, Some, List, [], length, slice_index}
use mathlib.Core.Option.{some, none}
use lib.ListN.{get_elem?}
use Rattle.atomic_table.specs.Table.{State}
use Rattle.stop_words.specs.declared.view.Place.{Place}
use Rattle.stop_words.specs.declared.view.Place.TheVariants.{Parked, Holding}
use Rattle.stop_words.specs.declared.view.View.{View}
use Rattle.stop_words.specs.Places.{word_of, is_in, lists_at, is_home}

-- what the rule says of the view of one seat
pub record FitsView (places : ℕ → Place) (posted_now seen_now : List ℕ) (given_now id : ℕ) (v : View) : Type 0 where
  pub number : v.thread ≡ id
  pub at : v.place ≡ places id
  pub posts : v.posted ≡ lists_at (places id) posted_now
  pub sees : v.seen ≡ lists_at (places id) seen_now
  pub gives : id ≡ 0 → v.given ≡ given_now

-- the slot is at home with the parcel of its thread, or it is with a seat
abbrev pub LiesAt : {P : Type 0} → (P → ℕ) → List (mathlib.Core.Option.Option (Option P)) → ℕ → Bool → Type 0
LiesAt {P} owner homes t true = (p : P) × (get_elem? homes t ≡ some (some (Some p))) × (owner p ≡ t)
LiesAt owner homes t false = get_elem? homes t ≡ some none

pub record StopRule {P : Type 0} (owner : P → ℕ) (n : ℕ) (s : State (Option P) View) : Type 0 where
  -- the place of each thread, and the lists of the holder
  pub places : ℕ → Place
  pub posted_now : List ℕ
  pub seen_now : List ℕ
  pub word_count : length s.words ≡ suc n
  pub slot_count : length s.homes ≡ n
  pub view_count : length s.views ≤ n
  -- the turn
  pub holder : (t : ℕ) → places t ≡ Holding → slice_index s.words 0 ≡ suc t
  pub turn : (t : ℕ) → slice_index s.words 0 ≡ suc t → places t ≡ Holding
  pub free : slice_index s.words 0 ≡ 0 → (posted_now ≡ []) × (seen_now ≡ [])
  -- the words and the slots of the threads
  pub words : (t : ℕ) → t < n → slice_index s.words (suc t) ≡ word_of (places t) (is_in t posted_now)
  pub slots : (t : ℕ) → t < n → LiesAt owner s.homes t (is_home (places t) (is_in t seen_now))
  -- the holder's lists
  pub posted_in : (u : ℕ) → is_in u posted_now ≡ true → (u < n) × (slice_index s.words 0 ≢ suc u)
  pub seen_in : (u : ℕ) → is_in u seen_now ≡ true → (is_in u posted_now ≡ true) × (places u ≡ Parked)
  -- the views: the i-th seat is that of thread i, and a thread without a seat is parked
  pub views : (id : ℕ) (v : View) → get_elem? s.views id ≡ some v → FitsView places posted_now seen_now (length s.views) id v
  pub unseated : (t : ℕ) → length s.views ≤ t → places t ≡ Parked

-- the view of the first seat
abbrev pub first_view : View
first_view = record { thread = 0; place = Parked; posted = []; seen = []; given = 1; steps = 0; word = 0; found = 0; left = 0 }

-- the view of the first seat after a new seat was split off
abbrev pub splitting : View → View
splitting v = record v { given = v.given + 1 }

-- the view of the new seat
abbrev pub split_off : View → View
split_off v = record { thread = v.given; place = Parked; posted = []; seen = []; given = 0; steps = 0; word = 0; found = 0; left = 0 }

-- the view of the first seat, once k numbers were given
abbrev pub giving : ℕ → View
giving k = record first_view { given = k }
