-- What is answered of the pairs of a table, and which pairs it has afterwards.
use Rattle.std.specs.Prelude.{◌≡◌, ◌≢◌, ℕ, ◌+◌, ◌<◌, List, [], ◌∷◌, ◌++◌, length, take, drop, slice_set, Option, Some, None, Bool, true, false}
use Rattle.eq_index.specs.declared.inserting.Inserted.{Inserted}
use Rattle.eq_index.specs.declared.inserting.Inserted.TheVariants.{Added, Replaced, Full}
use Rattle.eq_index.specs.Tables.{PairWords, pair_at}

-- no pair has the key
abbrev pub HasNo : List PairWords → ℕ → Type 0
HasNo pairs key = (k : ℕ) → k < length pairs → (pair_at pairs k).key ≢ key

-- the number of the pair that has the key, or none where no pair has it
abbrev pub Finds : List PairWords → ℕ → Option ℕ → Type 0
Finds pairs key None = HasNo pairs key
Finds pairs key (Some slot) = (slot < length pairs) × ((pair_at pairs slot).key ≡ key)

-- the value of a key, or none where no pair has the key
abbrev pub LooksUp : List PairWords → ℕ → Option ℕ → Type 0
LooksUp pairs key None = HasNo pairs key
LooksUp pairs key (Some value) = (slot : ℕ) × Finds pairs key (Some slot) × ((pair_at pairs slot).value ≡ value)

-- the pairs but one; those behind it close up
abbrev pub without : List PairWords → ℕ → List PairWords
without pairs slot = take slot pairs ++ drop (slot + 1) pairs

-- What inserting a pair answers, in a table with room for b pairs, and the pairs after it: the pair takes the place of the
-- one with its key, or is added last; where neither can be, nothing changes.
abbrev pub Inserts : ℕ → List PairWords → PairWords → Inserted → List PairWords → Type 0
Inserts b old pair Replaced new = (slot : ℕ) × Finds old pair.key (Some slot) × (new ≡ slice_set old slot pair)
Inserts b old pair Added new = HasNo old pair.key × (length old < b) × (new ≡ old ++ pair ∷ [])
Inserts b old pair Full new = HasNo old pair.key × (length old ≡ b) × (new ≡ old)

-- what removing a key answers, and the pairs after it
abbrev pub Removes : List PairWords → ℕ → Bool → List PairWords → Type 0
Removes old key true new = (slot : ℕ) × Finds old key (Some slot) × (new ≡ without old slot)
Removes old key false new = HasNo old key × (new ≡ old)
