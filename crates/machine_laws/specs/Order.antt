-- Which words belong to which phases: the turn and the words of the threads follow from the phases alone.
use Rattle.std.specs.Prelude.{◌≡◌, ◌≢◌, ℕ, suc, ◌+◌, ◌<◌, ◌⊎◌, Bool, true, false, not, nat_lt, if◌then◌else◌}
use Rattle.heap_terms.specs.declared.phases.Phase.{Phase}
use Rattle.heap_terms.specs.declared.phases.Phase.TheVariants.{Parked, Outside, Inside, Leaving, Parking, Posting, Looking, Collecting, Releasing, Returning, Ended}

-- the bits that a thread sets itself: 4 while it is parked, 1 while it is in its section
abbrev pub own_bits : Phase → ℕ
own_bits Parked = 4
own_bits Outside = 0
own_bits Inside = 1
own_bits Leaving = 1
own_bits Parking = 0
own_bits (Posting u) = 0
own_bits (Looking u) = 0
own_bits Collecting = 0
own_bits (Releasing u) = 0
own_bits Returning = 0
own_bits Ended = 4

-- whether a thread holds the turn
abbrev pub holds : Phase → Bool
holds Parked = false
holds Outside = false
holds Inside = false
holds Leaving = false
holds Parking = false
holds (Posting u) = true
holds (Looking u) = true
holds Collecting = true
holds (Releasing u) = true
holds Returning = true
holds Ended = false

-- whether a stop stands in the word of another thread u, by the phase of the turn's holder
abbrev pub is_stopped : Phase → ℕ → Bool
is_stopped Parked u = false
is_stopped Outside u = false
is_stopped Inside u = false
is_stopped Leaving u = false
is_stopped Parking u = false
is_stopped (Posting v) u = nat_lt u v
is_stopped (Looking v) u = true
is_stopped Collecting u = true
is_stopped (Releasing v) u = not (nat_lt u v)
is_stopped Returning u = false
is_stopped Ended u = false

-- whether the holder has found another thread u parked, and has not yet released it
abbrev pub is_found : Phase → ℕ → Bool
is_found Parked u = false
is_found Outside u = false
is_found Inside u = false
is_found Leaving u = false
is_found Parking u = false
is_found (Posting v) u = false
is_found (Looking v) u = nat_lt u v
is_found Collecting u = true
is_found (Releasing v) u = not (nat_lt u v)
is_found Returning u = false
is_found Ended u = false

-- the thread that a holder goes on with is another one, of n
abbrev pub IsPlaced : ℕ → ℕ → Phase → Type 0
IsPlaced n h Parked = Unit {0}
IsPlaced n h Outside = Unit {0}
IsPlaced n h Inside = Unit {0}
IsPlaced n h Leaving = Unit {0}
IsPlaced n h Parking = Unit {0}
IsPlaced n h (Posting u) = (u < n) × (u ≢ h)
IsPlaced n h (Looking u) = (u < n) × (u ≢ h)
IsPlaced n h Collecting = Unit {0}
IsPlaced n h (Releasing u) = (u < n) × (u ≢ h)
IsPlaced n h Returning = Unit {0}
IsPlaced n h Ended = Unit {0}

-- the bit of a stop
abbrev pub stop_bit : Bool → ℕ
stop_bit stands = if stands then 2 else 0

-- nobody holds the turn, and no stop stands
pub record IsFree (n turn : ℕ) (words : ℕ → ℕ) (phases : ℕ → Phase) : Type 0 where
  pub free : turn ≡ 0
  pub nobody : (t : ℕ) → t < n → holds (phases t) ≡ false
  pub words_are : (t : ℕ) → t < n → words t ≡ own_bits (phases t)

-- Thread h holds the turn, and nobody else does. In each other thread's word stand its own bits, and a stop where the
-- holder has posted it and has not yet released it; whom the holder has found parked is parked.
pub record IsHeld (n h turn : ℕ) (words : ℕ → ℕ) (phases : ℕ → Phase) : Type 0 where
  pub holder : h < n
  pub turn_is : turn ≡ suc h
  pub holding : holds (phases h) ≡ true
  pub placed : IsPlaced n h (phases h)
  pub own : words h ≡ 0
  pub nobody : (t : ℕ) → t < n → t ≢ h → holds (phases t) ≡ false
  pub words_are : (t : ℕ) → t < n → t ≢ h → words t ≡ own_bits (phases t) + stop_bit (is_stopped (phases h) t)
  pub found : (t : ℕ) → t < n → t ≢ h → is_found (phases h) t ≡ true → own_bits (phases t) ≡ 4

-- the turn and the words of n threads are those of their phases
abbrev pub InOrder : ℕ → ℕ → (ℕ → ℕ) → (ℕ → Phase) → Type 0
InOrder n turn words phases = IsFree n turn words phases ⊎ ((h : ℕ) × IsHeld n h turn words phases)
