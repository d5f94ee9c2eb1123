-- Words of the forms, by how many they are.
use Rattle.std.proofs.Common.{◌≡◌, ℕ, ◌<◌, ◌≤◌, ◌⊎◌, ◌&&◌, ◌||◌, Bool, true, false, List, [], ◌∷◌, length, get_or, map, refl, ap, ◌∙◌, inl, inr, arith, codes, Option, Some, None}
use Rattle.std.specs.Prelude.{is_some, bytes_eq}
use Rattle.std.proofs.lemmas.Bool.{cases_Bool}
use Rattle.command_words.specs.Forms.{generating, provided, is_script, wanted, wanted_after, joined_seed, parted_seed}

module _ {A : Type 0} (f : A → List ℕ) where
  pub two_words : (xs : List A) (x y : A) → 2 ≤ length xs → length xs < 3 → x ≡ get_or xs 0 x → y ≡ get_or xs 1 y → map f xs ≡ f x ∷ f y ∷ []
  two_words [] x y least most first second = absurd (omega arith)
  two_words (a ∷ []) x y least most first second = absurd (omega arith)
  two_words (a ∷ b ∷ []) x y least most first second = rw (first, second) refl
  two_words (a ∷ b ∷ c ∷ more) x y least most first second = absurd (omega arith)

  pub three_words : (xs : List A) (x y z : A) → 3 ≤ length xs → length xs < 4 → x ≡ get_or xs 0 x → y ≡ get_or xs 1 y → z ≡ get_or xs 2 z
      → map f xs ≡ f x ∷ f y ∷ f z ∷ []
  three_words [] x y z least most first second third = absurd (omega arith)
  three_words (a ∷ []) x y z least most first second third = absurd (omega arith)
  three_words (a ∷ b ∷ []) x y z least most first second third = absurd (omega arith)
  three_words (a ∷ b ∷ c ∷ []) x y z least most first second third = rw (first, second, third) refl
  three_words (a ∷ b ∷ c ∷ d ∷ more) x y z least most first second third = absurd (omega arith)

  pub four_words : (xs : List A) (x y z w : A) → 4 ≤ length xs → length xs < 5 → x ≡ get_or xs 0 x → y ≡ get_or xs 1 y → z ≡ get_or xs 2 z → w ≡ get_or xs 3 w
      → map f xs ≡ f x ∷ f y ∷ f z ∷ f w ∷ []
  four_words [] x y z w least most first second third fourth = absurd (omega arith)
  four_words (a ∷ []) x y z w least most first second third fourth = absurd (omega arith)
  four_words (a ∷ b ∷ []) x y z w least most first second third fourth = absurd (omega arith)
  four_words (a ∷ b ∷ c ∷ []) x y z w least most first second third fourth = absurd (omega arith)
  four_words (a ∷ b ∷ c ∷ d ∷ []) x y z w least most first second third fourth = rw (first, second, third, fourth) refl
  four_words (a ∷ b ∷ c ∷ d ∷ e ∷ more) x y z w least most first second third fourth = absurd (omega arith)

-- a seed is wanted where there is one
generated_some : (script : Bool) (seed : Option ℕ) → is_some (generating script seed) ≡ is_some seed
generated_some script None = refl
generated_some script (Some n) = refl

provided_some : {A : Type 0} (test : Bool) (x : Option A) → is_some (provided test x) ≡ (test && is_some x)
provided_some true x = refl
provided_some false x = refl

turned : (a b : Bool) → (a && b) ≡ (b && a)
turned true true = refl
turned true false = refl
turned false true = refl
turned false false = refl

pub of_two : (name option : List ℕ) → is_some (wanted (name ∷ option ∷ [])) ≡ (bytes_eq name (codes "gen") && is_some (joined_seed option))
unfolding wanted wanted_after
of_two name option = provided_some (bytes_eq name (codes "gen")) (generating false (joined_seed option)) ∙ ap (λ b. bytes_eq name (codes "gen") && b) (generated_some false (joined_seed option))

pub of_three : (name option last : List ℕ) → is_some (wanted (name ∷ option ∷ last ∷ [])) ≡
    (bytes_eq name (codes "gen") && (is_some (parted_seed option last) || (is_some (joined_seed option) && is_script last)))
unfolding wanted wanted_after
of_three name option last =
    provided_some (bytes_eq name (codes "gen")) (wanted_after (option ∷ last ∷ [])) ∙ ap (λ b. bytes_eq name (codes "gen") && b) inner
  where
    inner : is_some (wanted_after (option ∷ last ∷ [])) ≡ (is_some (parted_seed option last) || (is_some (joined_seed option) && is_script last))
    inner = elim (cases_Bool (is_some (parted_seed option last))) [
      | inl parted ↦ rw parted (generated_some false (parted_seed option last) ∙ parted)
      | inr not ↦ rw not (provided_some (is_script last) (generating true (joined_seed option))
          ∙ ap (λ b. is_script last && b) (generated_some true (joined_seed option)) ∙ turned (is_script last) (is_some (joined_seed option)))
    ]

pub of_four : (name option digits last : List ℕ) → is_some (wanted (name ∷ option ∷ digits ∷ last ∷ [])) ≡
    (bytes_eq name (codes "gen") && (is_some (parted_seed option digits) && is_script last))
unfolding wanted wanted_after
of_four name option digits last =
    provided_some (bytes_eq name (codes "gen")) (provided (is_script last) (generating true (parted_seed option digits)))
    ∙ ap (λ b. bytes_eq name (codes "gen") && b) (provided_some (is_script last) (generating true (parted_seed option digits)) ∙ ap (λ b. is_script last && b) (generated_some true (parted_seed option digits))
    ∙ turned (is_script last) (is_some (parted_seed option digits)))

pub no_form : {A : Type 0} (f : A → List ℕ) (xs : List A) → ((length xs < 2) ⊎ (5 ≤ length xs)) → is_some (wanted (map f xs)) ≡ false
unfolding wanted wanted_after
no_form f [] out = refl
no_form f (a ∷ []) out = provided_some (bytes_eq (f a) (codes "gen")) None ∙ and_false (bytes_eq (f a) (codes "gen"))
  where
    and_false : (b : Bool) → (b && false) ≡ false
    and_false true = refl
    and_false false = refl
no_form f (a ∷ b ∷ []) (inl less) = absurd (omega arith)
no_form f (a ∷ b ∷ []) (inr more) = absurd (omega arith)
no_form f (a ∷ b ∷ c ∷ []) (inl less) = absurd (omega arith)
no_form f (a ∷ b ∷ c ∷ []) (inr more) = absurd (omega arith)
no_form f (a ∷ b ∷ c ∷ d ∷ []) (inl less) = absurd (omega arith)
no_form f (a ∷ b ∷ c ∷ d ∷ []) (inr more) = absurd (omega arith)
no_form f (a ∷ b ∷ c ∷ d ∷ e ∷ xs) out = provided_some (bytes_eq (f a) (codes "gen")) None ∙ and_false (bytes_eq (f a) (codes "gen"))
  where
    and_false : (b : Bool) → (b && false) ≡ false
    and_false true = refl
    and_false false = refl
