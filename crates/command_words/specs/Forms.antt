-- The forms of the words that ask for the generator. They are this project's own.
use Rattle.std.specs.Prelude.{ℕ, ◌-◌, ◌^◌, Bool, true, false, List, [], ◌∷◌, drop, take, Option, Some, None, option_map, option_and_then, if◌then◌else◌, nat_le, is_some, codes, bytes_eq}
use Rattle.heap_terms.specs.Fields.{number_of}

abbrev pub provided : {A : Type 0} → Bool → Option A → Option A
provided test x = if test then x else None

-- a seed: 1 to 20 decimal digits, of a number of 64 bits
unfoldable pub seed_of : List ℕ → Option ℕ
seed_of digits = option_and_then (λ n. provided (nat_le n (2 ^ 64 - 1)) (Some n)) (number_of digits)

-- the seed in the word `--seed=N`
unfoldable pub joined_seed : List ℕ → Option ℕ
joined_seed word = provided (bytes_eq (take 7 word) (codes "--seed=")) (seed_of (drop 7 word))

-- the seed in the words `--seed N`
unfoldable pub parted_seed : List ℕ → List ℕ → Option ℕ
parted_seed option digits = provided (bytes_eq option (codes "--seed")) (seed_of digits)

-- what is wanted of the generator: a seed, and whether its script or the summary of its run
pub record Generate : Type 0 where
  pub seed : ℕ
  pub script : Bool

abbrev pub generating : Bool → Option ℕ → Option Generate
generating script = option_map (λ seed. record { seed = seed; script = script })

abbrev pub is_script : List ℕ → Bool
is_script word = bytes_eq word (codes "--script")

-- what the words after `gen` say
unfoldable pub wanted_after : List (List ℕ) → Option Generate
wanted_after (option ∷ []) = generating false (joined_seed option)
wanted_after (option ∷ last ∷ []) =
    if is_some (parted_seed option last) then generating false (parted_seed option last)
    else provided (is_script last) (generating true (joined_seed option))
wanted_after (option ∷ digits ∷ last ∷ []) = provided (is_script last) (generating true (parted_seed option digits))
wanted_after _ = None

-- `gen --seed N` or `gen --seed=N`, and perhaps `--script` at the end
unfoldable pub wanted : List (List ℕ) → Option Generate
wanted [] = None
wanted (name ∷ words) = provided (bytes_eq name (codes "gen")) (wanted_after words)
