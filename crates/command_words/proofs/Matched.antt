-- What `clap` makes of the words of the generator.
use Rattle.std.proofs.Common.{◌≡◌, ℕ, ◌≤◌, ◌&&◌, Bool, true, false, List, [], ◌∷◌, ◌++◌, take, drop, length, refl, ap, sym, subst, ◌∙◌, inl, inr, arith, codes, Option, Some, None, if◌then◌else◌, nat_le, take-append-drop}
use Rattle.std.specs.Prelude.{is_some, bytes_eq, option_and_then}
use Rattle.std.specs.Char.{is_digit, digit_value}
use Rattle.std.specs.List.{list_all}
use Rattle.std.proofs.lemmas.Bool.{cases_Bool, cases_eq, and_parts, false≢true, ltb-true}
use Rattle.std.proofs.lemmas.Slice.Eq.{bytes_eq-Decides}
use Rattle.std.proofs.lemmas.Str.Parse.{digit_from_value}
use Rattle.std.specs.Str.Parse.{digits_value}
use Rattle.std.proofs.lemmas.List.Folds.{list_all_at}
use Rattle.heap_terms.specs.Fields.{is_numeral, number_of}
use Rattle.clap.specs.Words.{first_of, is_simple, matches_of, one_of, takes}
use Rattle.clap.proofs.OnLiterals.{clap_on_literals}
use Rattle.command_words.specs.Forms.{generating, provided, is_script, wanted, wanted_after, seed_of, joined_seed, parted_seed}
use Rattle.command_words.specs.Matching.{generator}

pub generator_is_simple : is_simple generator ≡ true
unfolding generator
generator_is_simple = refl

-- the text of a flag
abbrev pub flag_text : Bool → List ℕ
flag_text true = codes "true"
flag_text false = codes "false"

-- `clap` takes words, and finds this seed and this flag in them
pub record Finds (words : List (List ℕ)) (digits : List ℕ) (script : Bool) : Type 0 where
  pub taken : takes generator words ≡ true
  pub seed : first_of (codes "seed") (matches_of generator words) ≡ Some digits
  pub flag : one_of (codes "script") (matches_of generator words) ≡ Some (flag_text script)

finds_joined : (digits : List ℕ) → Finds (codes "gen" ∷ (codes "--seed=" ++ digits) ∷ []) digits false
unfolding clap_on_literals generator
finds_joined digits = record { taken = refl; seed = refl; flag = refl }

finds_joined_script : (digits : List ℕ) → Finds (codes "gen" ∷ (codes "--seed=" ++ digits) ∷ codes "--script" ∷ []) digits true
unfolding clap_on_literals generator
finds_joined_script digits = record { taken = refl; seed = refl; flag = refl }

-- the first byte of a number is one of ten
by_digit : (P : ℕ → Type 0) → P 48 → P 49 → P 50 → P 51 → P 52 → P 53 → P 54 → P 55 → P 56 → P 57 → (b : ℕ) → 48 ≤ b → b ≤ 57 → P b
by_digit P p0 p1 p2 p3 p4 p5 p6 p7 p8 p9 b low high =
    elim (cases_eq b 48) [
      | inl e ↦ subst P (sym e) p0
      | inr n0 ↦
          elim (cases_eq b 49) [
            | inl e ↦ subst P (sym e) p1
            | inr n1 ↦
                elim (cases_eq b 50) [
                  | inl e ↦ subst P (sym e) p2
                  | inr n2 ↦
                      elim (cases_eq b 51) [
                        | inl e ↦ subst P (sym e) p3
                        | inr n3 ↦
                            elim (cases_eq b 52) [
                              | inl e ↦ subst P (sym e) p4
                              | inr n4 ↦
                                  elim (cases_eq b 53) [
                                    | inl e ↦ subst P (sym e) p5
                                    | inr n5 ↦
                                        elim (cases_eq b 54) [
                                          | inl e ↦ subst P (sym e) p6
                                          | inr n6 ↦
                                              elim (cases_eq b 55) [
                                                | inl e ↦ subst P (sym e) p7
                                                | inr n7 ↦
                                                    elim (cases_eq b 56) [
                                                      | inl e ↦ subst P (sym e) p8
                                                      | inr n8 ↦
                                                          subst P (sym (omega (arith, n0, n1, n2, n3, n4, n5, n6, n7, n8))) p9
                                                    ]
                                              ]
                                        ]
                                  ]
                            ]
                      ]
                ]
          ]
    ]

abbrev parted_words : ℕ → List ℕ → List (List ℕ)
parted_words b digits = codes "gen" ∷ codes "--seed" ∷ (b ∷ digits) ∷ []

abbrev parted_script_words : ℕ → List ℕ → List (List ℕ)
parted_script_words b digits = codes "gen" ∷ codes "--seed" ∷ (b ∷ digits) ∷ codes "--script" ∷ []

finds_parted : (b : ℕ) (digits : List ℕ) → 48 ≤ b → b ≤ 57 → Finds (parted_words b digits) (b ∷ digits) false
unfolding clap_on_literals generator
finds_parted b digits = by_digit (λ x. Finds (parted_words x digits) (x ∷ digits) false)
    (record { taken = refl; seed = refl; flag = refl }) (record { taken = refl; seed = refl; flag = refl }) (record { taken = refl; seed = refl; flag = refl })
    (record { taken = refl; seed = refl; flag = refl }) (record { taken = refl; seed = refl; flag = refl }) (record { taken = refl; seed = refl; flag = refl })
    (record { taken = refl; seed = refl; flag = refl }) (record { taken = refl; seed = refl; flag = refl }) (record { taken = refl; seed = refl; flag = refl })
    (record { taken = refl; seed = refl; flag = refl }) b

finds_parted_script : (b : ℕ) (digits : List ℕ) → 48 ≤ b → b ≤ 57 → Finds (parted_script_words b digits) (b ∷ digits) true
unfolding clap_on_literals generator
finds_parted_script b digits = by_digit (λ x. Finds (parted_script_words x digits) (x ∷ digits) true)
    (record { taken = refl; seed = refl; flag = refl }) (record { taken = refl; seed = refl; flag = refl }) (record { taken = refl; seed = refl; flag = refl })
    (record { taken = refl; seed = refl; flag = refl }) (record { taken = refl; seed = refl; flag = refl }) (record { taken = refl; seed = refl; flag = refl })
    (record { taken = refl; seed = refl; flag = refl }) (record { taken = refl; seed = refl; flag = refl }) (record { taken = refl; seed = refl; flag = refl })
    (record { taken = refl; seed = refl; flag = refl }) b

-- ---- from what is wanted to the words

-- what stands under a test that holds
test_holds : {A : Type 0} (test : Bool) (x : Option A) → is_some (provided test x) ≡ true → test ≡ true
test_holds true x some = refl
test_holds false x some = absurd (false≢true some)

value_some : {A : Type 0} (test : Bool) (x : Option A) → is_some (provided test x) ≡ true → is_some x ≡ true
value_some true x some = some
value_some false x some = absurd (false≢true some)

seed_some : (script : Bool) (seed : Option ℕ) → is_some (generating script seed) ≡ true → is_some seed ≡ true
seed_some script (Some n) some = refl
seed_some script None some = absurd (false≢true some)

-- the first byte of a seed is a digit
first_digit : (b : ℕ) (digits : List ℕ) → is_some (seed_of (b ∷ digits)) ≡ true → (48 ≤ b) × (b ≤ 57)
unfolding seed_of number_of
first_digit b digits some =
    let numeral : is_numeral 10 20 (b ∷ digits) ≡ true = chosen (is_numeral 10 20 (b ∷ digits)) (digits_value 10 (b ∷ digits)) _ some in
    let all : list_all (λ c. is_digit c 10) (b ∷ digits) ≡ true = all_of numeral in
    elim (cases_Bool (is_digit b 10)) [
      | inl digit ↦ digit_from_value b (ltb-true (digit_value b) 10 digit)
      | inr none ↦ absurd (false≢true (sym (list_all_at (λ c. is_digit c 10) (b ∷ digits) 0 0 (omega arith) none) ∙ all))
    ]
  where
    chosen : (t : Bool) (x : ℕ) (f : ℕ → Option ℕ) → is_some (option_and_then f (if t then Some x else None)) ≡ true → t ≡ true
    chosen true x f some = refl
    chosen false x f some = absurd (false≢true some)

    all_of : is_numeral 10 20 (b ∷ digits) ≡ true → list_all (λ c. is_digit c 10) (b ∷ digits) ≡ true
    all_of numeral =
        (and_parts (nat_le 1 (length (b ∷ digits)) && nat_le (length (b ∷ digits)) 20) (list_all (λ c. is_digit c 10) (b ∷ digits)) numeral).1

no_digit : is_some (seed_of []) ≡ true → ⊥
unfolding seed_of number_of
no_digit some = false≢true some

-- words of the generator, and what they say
pub record Read (words : List (List ℕ)) : Type 0 where
  pub digits : List ℕ
  pub script : Bool
  pub is : wanted words ≡ generating script (seed_of digits)
  pub some : is_some (seed_of digits) ≡ true
  pub finds : Finds words digits script

read_joined : (digits : List ℕ) → is_some (seed_of digits) ≡ true → Read (codes "gen" ∷ (codes "--seed=" ++ digits) ∷ [])
unfolding wanted wanted_after joined_seed
read_joined digits some = record { digits = digits; script = false; is = refl; some = some; finds = finds_joined digits }

read_joined_script : (digits : List ℕ) → is_some (seed_of digits) ≡ true → Read (codes "gen" ∷ (codes "--seed=" ++ digits) ∷ codes "--script" ∷ [])
unfolding wanted wanted_after joined_seed parted_seed
read_joined_script digits some = record { digits = digits; script = true; is = refl; some = some; finds = finds_joined_script digits }

read_parted : (digits : List ℕ) → is_some (seed_of digits) ≡ true → Read (codes "gen" ∷ codes "--seed" ∷ digits ∷ [])
unfolding wanted wanted_after parted_seed
read_parted [] some = absurd (no_digit some)
read_parted (b ∷ digits) some =
    let range = first_digit b digits some in
    record { digits = b ∷ digits; script = false; is = rw some refl; some = some; finds = finds_parted b digits range.0 range.1 }

read_parted_script : (digits : List ℕ) → is_some (seed_of digits) ≡ true → Read (codes "gen" ∷ codes "--seed" ∷ digits ∷ codes "--script" ∷ [])
unfolding wanted wanted_after parted_seed
read_parted_script [] some = absurd (no_digit some)
read_parted_script (b ∷ digits) some =
    let range = first_digit b digits some in
    record { digits = b ∷ digits; script = true; is = refl; some = some; finds = finds_parted_script b digits range.0 range.1 }

same_word : (a b : List ℕ) → bytes_eq a b ≡ true → a ≡ b
same_word a b same = (bytes_eq-Decides a b).0 same

-- a word with a seed in it, or two of them
joined_spelled : (word : List ℕ) → is_some (joined_seed word) ≡ true → (word ≡ codes "--seed=" ++ drop 7 word) × (is_some (seed_of (drop 7 word)) ≡ true)
unfolding joined_seed
joined_spelled word some =
    let front = same_word (take 7 word) (codes "--seed=") (test_holds _ _ some) in
    (sym (take-append-drop 7 word) ∙ ap (λ w. w ++ drop 7 word) front, value_some (bytes_eq (take 7 word) (codes "--seed=")) _ some)

parted_spelled : (option digits : List ℕ) → is_some (parted_seed option digits) ≡ true → (option ≡ codes "--seed") × (is_some (seed_of digits) ≡ true)
unfolding parted_seed
parted_spelled option digits some = (same_word option (codes "--seed") (test_holds _ (seed_of digits) some), value_some (bytes_eq option (codes "--seed")) (seed_of digits) some)

read_after : (words : List (List ℕ)) → is_some (wanted_after words) ≡ true → Read (codes "gen" ∷ words)
unfolding wanted_after
read_after [] some = absurd (false≢true some)
read_after (option ∷ []) some =
    let told = joined_spelled option (seed_some false (joined_seed option) some) in
    subst (λ w. Read (codes "gen" ∷ w ∷ [])) (sym told.0) (read_joined (drop 7 option) told.1)
read_after (option ∷ last ∷ []) some = elim (cases_Bool (is_some (parted_seed option last))) [
  | inl parted ↦
      let told = parted_spelled option last parted in
      subst (λ w. Read (codes "gen" ∷ w ∷ last ∷ [])) (sym told.0) (read_parted last told.1)
  | inr not ↦
      let rest : is_some (provided (is_script last) (generating true (joined_seed option))) ≡ true = rw not at some in
      let told = joined_spelled option (seed_some true (joined_seed option) (value_some (is_script last) _ rest)) in
      let script = same_word last (codes "--script") (test_holds (is_script last) _ rest) in
      subst (λ w. Read (codes "gen" ∷ option ∷ w ∷ [])) (sym script)
      (subst (λ w. Read (codes "gen" ∷ w ∷ codes "--script" ∷ [])) (sym told.0) (read_joined_script (drop 7 option) told.1))
]
read_after (option ∷ digits ∷ last ∷ []) some =
    let told = parted_spelled option digits (seed_some true (parted_seed option digits) (value_some (is_script last) _ some)) in
    let script = same_word last (codes "--script") (test_holds (is_script last) _ some) in
    subst (λ w. Read (codes "gen" ∷ option ∷ digits ∷ w ∷ [])) (sym script)
    (subst (λ w. Read (codes "gen" ∷ w ∷ digits ∷ codes "--script" ∷ [])) (sym told.0) (read_parted_script digits told.1))
read_after (option ∷ digits ∷ last ∷ more ∷ words) some = absurd (false≢true some)

pub read : (words : List (List ℕ)) → is_some (wanted words) ≡ true → Read words
unfolding wanted
read [] some = absurd (false≢true some)
read (name ∷ words) some =
    let gen = same_word name (codes "gen") (test_holds (bytes_eq name (codes "gen")) (wanted_after words) some) in
    subst (λ w. Read (w ∷ words)) (sym gen) (read_after words (value_some (bytes_eq name (codes "gen")) (wanted_after words) some))

-- what is told of a flag
pub flag_is : (script r : Bool) (o : Option (List ℕ)) → o ≡ Some (flag_text script) → (o ≡ Some (codes "true") → r ≡ true) → (o ≡ Some (codes "false") → r ≡ false) → r ≡ script
flag_is true r o told if_true if_false = if_true told
flag_is false r o told if_true if_false = if_false told
