-- Parcels by the numbers of the threads that own them. This project's own.
use Rattle.std.specs.Prelude.{◌≡◌, ℕ, zero, suc, List, [], ◌∷◌, map}

-- count numbers from a on
abbrev pub numbers_from : ℕ → ℕ → List ℕ
numbers_from a zero = []
numbers_from a (suc m) = a ∷ numbers_from (suc a) m

-- there is one parcel for each of the threads, and the i-th belongs to thread i
abbrev pub ByOwner : {P : Type 0} → (P → ℕ) → ℕ → List P → Type 0
ByOwner owner threads parcels = map owner parcels ≡ numbers_from 0 threads
