-- The turns of a schedule, run by run.
use Rattle.std.proofs.Common.{◌≡◌, ℕ, zero, suc, ◌+◌, ◌*◌, ◌/◌, ◌%◌, ◌≤◌, ◌<◌, ◌^◌, true, false, cond, eqb, List, [], ◌∷◌, ◌++◌, replicate, map, Ok, refl, sym, ap, ◌∙◌, inl, inr, subst, arith, append_assoc, append-nil, add-one, length-append}
use Rattle.std.specs.Prelude.{decimal, flat_map}
use Rattle.std.specs.List.{All, slice_split}
use Rattle.std.proofs.lemmas.Bool.{cases_Bool, lt-ltb, le-leb, eqb-true, eqb-false, ne_eqb}
use Rattle.std.proofs.lemmas.Grind.{flat_map-append}
use Rattle.std.proofs.lemmas.List.{replicate-append-replicate}
use Rattle.std.proofs.lemmas.List.Elements.{All-nil, All-cons, All-append, All-head, All-tail, All-weaker, All-replicate}
use Rattle.std.proofs.lemmas.List.Splits.{slice_split_none, slice_split_at}
use Rattle.heap_terms.specs.Fields.{turns_of, turns_of_parts}
use Rattle.heap_terms.specs.Grammar.{Turns, schedule_of, turns_of_all}
use Rattle.heap_terms.specs.ScriptPrinting.{TurnRun, with_turn, runs_of, pieces_of, run_text, pieces_in}
use Rattle.script_laws.proofs.Lines.{IsWord, is_solid}
use Rattle.script_laws.proofs.FieldTexts.{decimal_word, number_decimal, digits_high}

-- the turns of a run
abbrev turns_in : TurnRun → List ℕ
turns_in r = replicate r.count r.thread

-- a run that one field can say
pub record IsPiece (threads : ℕ) (r : TurnRun) : Type 0 where
  pub thread : r.thread < threads
  pub least : 1 ≤ r.count
  pub most : r.count ≤ 65535

-- ---- runs

run_longer : (n t : ℕ) → replicate (n + 1) t ≡ t ∷ replicate n t
run_longer n t = rw add-one refl

one_more : (t : ℕ) (runs : List TurnRun) → flat_map turns_in (with_turn t runs) ≡ t ∷ flat_map turns_in runs
one_more t [] = refl
one_more t (r ∷ runs) = elim (cases_Bool (eqb t r.thread)) [
  | inl same ↦ rw same (ap (λ (ts : List ℕ). ts ++ flat_map turns_in runs) (run_longer r.count r.thread) ∙ ap (λ (u : ℕ). u ∷ turns_in r ++ flat_map turns_in runs) (sym (eqb-true t r.thread same)))
  | inr other ↦ rw other refl
]

runs_are : (ts : List ℕ) → flat_map turns_in (runs_of ts) ≡ ts
unfolding runs_of
runs_are [] = refl
runs_are (t ∷ ts) = one_more t (runs_of ts) ∙ ap (λ (more : List ℕ). t ∷ more) (runs_are ts)

-- a run of some thread below a number, with one turn at least
record IsRun (threads : ℕ) (r : TurnRun) : Type 0 where
  thread : r.thread < threads
  least : 1 ≤ r.count

turn_fits : (threads t : ℕ) (runs : List TurnRun) → t < threads → All (IsRun threads) runs → All (IsRun threads) (with_turn t runs)
turn_fits threads t [] lt all = All-cons (IsRun threads) _ [] (record { thread = lt; least = omega arith }) (All-nil (IsRun threads))
turn_fits threads t (r ∷ runs) lt all =
    let h : IsRun threads r = All-head (IsRun threads) r runs all in
    elim (cases_Bool (eqb t r.thread)) [
      | inl same ↦ rw same (All-cons (IsRun threads) _ runs (record { thread = h.thread; least = omega arith }) (All-tail (IsRun threads) r runs all))
      | inr other ↦ rw other (All-cons (IsRun threads) _ (r ∷ runs) (record { thread = lt; least = omega arith }) all)
    ]

runs_fit : (threads : ℕ) (ts : List ℕ) → All (λ t. t < threads) ts → All (IsRun threads) (runs_of ts)
unfolding runs_of
runs_fit threads [] all = All-nil (IsRun threads)
runs_fit threads (t ∷ ts) all = turn_fits threads t (runs_of ts) (All-head (λ t. t < threads) t ts all) (runs_fit threads ts (All-tail (λ t. t < threads) t ts all))

-- ---- pieces

full_pieces : (q t : ℕ) → flat_map turns_in (replicate q (record { thread = t; count = 65535 })) ≡ replicate (q * 65535) t
full_pieces zero t = refl
full_pieces (suc q) t =
    ap (λ (ts : List ℕ). replicate 65535 t ++ ts) (full_pieces q t)
    ∙ replicate-append-replicate 65535 (q * 65535) t
    ∙ (let e : 65535 + q * 65535 ≡ suc q * 65535 = omega arith in ap (λ (n : ℕ). replicate n t) e)

rest_of : ℕ → ℕ → List TurnRun
rest_of t m = cond (eqb m 0) [] (record { thread = t; count = m } ∷ [])

rest_is : (t m : ℕ) → flat_map turns_in (rest_of t m) ≡ replicate m t
unfolding rest_of
rest_is t m = elim (cases_Bool (eqb m 0)) [
  | inl none ↦ rw (none, eqb-true m 0 none) refl
  | inr some ↦ rw some (append-nil (replicate m t))
]

pieces_are : (r : TurnRun) → flat_map turns_in (pieces_of r) ≡ turns_in r
unfolding rest_of
pieces_are r =
    flat_map-append turns_in (replicate (r.count / 65535) (record r { count = 65535 })) (rest_of r.thread (r.count % 65535))
    ∙ ap (λ (ts : List ℕ). ts ++ flat_map turns_in (rest_of r.thread (r.count % 65535))) (full_pieces (r.count / 65535) r.thread)
    ∙ ap (λ (ts : List ℕ). replicate (r.count / 65535 * 65535) r.thread ++ ts) (rest_is r.thread (r.count % 65535))
    ∙ replicate-append-replicate (r.count / 65535 * 65535) (r.count % 65535) r.thread
    ∙ (let e : r.count / 65535 * 65535 + r.count % 65535 ≡ r.count = omega arith in ap (λ (n : ℕ). replicate n r.thread) e)

all_pieces_are : (runs : List TurnRun) → flat_map turns_in (flat_map pieces_of runs) ≡ flat_map turns_in runs
all_pieces_are [] = refl
all_pieces_are (r ∷ runs) =
    flat_map-append turns_in (pieces_of r) (flat_map pieces_of runs)
    ∙ ap (λ (ts : List ℕ). ts ++ flat_map turns_in (flat_map pieces_of runs)) (pieces_are r)
    ∙ ap (λ (ts : List ℕ). turns_in r ++ ts) (all_pieces_are runs)

rest_fits : (threads t m : ℕ) → t < threads → m < 65535 → All (IsPiece threads) (rest_of t m)
unfolding rest_of
rest_fits threads t m lt small = elim (cases_Bool (eqb m 0)) [
  | inl none ↦ rw none (All-nil (IsPiece threads))
  | inr some ↦
      let other : m ≡ 0 → ⊥ = eqb-false m 0 some in
      rw some (All-cons (IsPiece threads) _ [] (record { thread = lt; least = omega arith; most = omega arith }) (All-nil (IsPiece threads)))
]

pieces_fit : (threads : ℕ) (r : TurnRun) → IsRun threads r → All (IsPiece threads) (pieces_of r)
unfolding rest_of
pieces_fit threads r h =
    All-append (IsPiece threads) (replicate (r.count / 65535) (record r { count = 65535 })) (rest_of r.thread (r.count % 65535))
    (All-replicate (IsPiece threads) (r.count / 65535) (record r { count = 65535 }) (record { thread = h.thread; least = omega arith; most = omega arith }))
    (rest_fits threads r.thread (r.count % 65535) h.thread (omega arith))

all_pieces_fit : (threads : ℕ) (runs : List TurnRun) → All (IsRun threads) runs → All (IsPiece threads) (flat_map pieces_of runs)
all_pieces_fit threads [] all = All-nil (IsPiece threads)
all_pieces_fit threads (r ∷ runs) all =
    All-append (IsPiece threads) (pieces_of r) (flat_map pieces_of runs) (pieces_fit threads r (All-head (IsRun threads) r runs all)) (all_pieces_fit threads runs (All-tail (IsRun threads) r runs all))

-- ---- fields

no_star : (n : ℕ) → n < 2 ^ 64 → All (λ b. eqb b 42 ≡ false) (decimal n)
no_star n small = All-weaker (λ b. 48 ≤ b) (λ b. eqb b 42 ≡ false) (λ b low. ne_eqb b 42 (λ (e : b ≡ 42). omega arith)) (decimal n) (digits_high n small)

short_text : (r : TurnRun) → eqb r.count 1 ≡ true → run_text r ≡ decimal r.thread
short_text r one = rw one refl

long_text : (r : TurnRun) → eqb r.count 1 ≡ false → run_text r ≡ decimal r.thread ++ 42 ∷ decimal r.count
long_text r more = rw more (append_assoc (decimal r.thread) (42 ∷ []) (decimal r.count))

short_said : (threads t : ℕ) → t < threads → t < 2 ^ 64 → turns_of threads (decimal t) ≡ Ok (t ∷ [])
unfolding turns_of
short_said threads t lt small = rw (slice_split_none (λ b. eqb b 42) (decimal t) (no_star t small), number_decimal t small, lt-ltb t threads lt) refl

long_said : (threads t k : ℕ) → t < threads → t < 2 ^ 64 → 1 ≤ k → k ≤ 65535 → turns_of threads (decimal t ++ 42 ∷ decimal k) ≡ Ok (replicate k t)
unfolding turns_of
long_said threads t k lt small least most =
    let narrow : k < 2 ^ 64 = omega arith in
    let parts : slice_split (λ b. eqb b 42) (decimal t ++ 42 ∷ decimal k) ≡ decimal t ∷ decimal k ∷ [] =
    slice_split_at (λ b. eqb b 42) (decimal t) 42 (decimal k) (no_star t small) refl
    ∙ ap (λ (more : List (List ℕ)). decimal t ∷ more) (slice_split_none (λ b. eqb b 42) (decimal k) (no_star k narrow)) in
    ap (turns_of_parts threads) parts
    ∙ rw (number_decimal t small, number_decimal k narrow, lt-ltb t threads lt, le-leb 1 k least, le-leb k 65535 most) refl

piece_said : (threads : ℕ) (r : TurnRun) → threads ≤ 8 → IsPiece threads r → turns_of threads (run_text r) ≡ Ok (turns_in r)
piece_said threads r few h =
    let small : r.thread < 2 ^ 64 = omega (arith, h.thread) in
    elim (cases_Bool (eqb r.count 1)) [
      | inl one ↦
          ap (turns_of threads) (short_text r one) ∙ short_said threads r.thread h.thread small
          ∙ ap (λ (k : ℕ). Ok (replicate k r.thread)) (sym (eqb-true r.count 1 one))
      | inr more ↦ ap (turns_of threads) (long_text r more) ∙ long_said threads r.thread r.count h.thread small h.least h.most
    ]

pieces_said : (threads : ℕ) (rs : List TurnRun) → threads ≤ 8 → All (IsPiece threads) rs → turns_of_all threads (map run_text rs) ≡ Ok (flat_map turns_in rs)
pieces_said threads [] few all = refl
pieces_said threads (r ∷ rs) few all =
    rw (piece_said threads r few (All-head (IsPiece threads) r rs all), pieces_said threads rs few (All-tail (IsPiece threads) r rs all)) refl

long_word : (xs ys : List ℕ) → IsWord xs → IsWord ys → IsWord (xs ++ 42 ∷ ys)
long_word xs ys h k = record {
  some = omega (arith, length-append xs (42 ∷ ys), h.some);
  solid = All-append (λ b. is_solid b ≡ true) xs (42 ∷ ys) h.solid (All-cons (λ b. is_solid b ≡ true) 42 ys refl k.solid);
}

piece_word : (threads : ℕ) (r : TurnRun) → threads ≤ 8 → IsPiece threads r → IsWord (run_text r)
piece_word threads r few h =
    let t = decimal_word r.thread (omega (arith, h.thread)) in
    let k = decimal_word r.count (omega (arith, h.most)) in
    elim (cases_Bool (eqb r.count 1)) [
      | inl one ↦ subst IsWord (sym (short_text r one)) t
      | inr more ↦ subst IsWord (sym (long_text r more)) (long_word (decimal r.thread) (decimal r.count) t k)
    ]

piece_words : (threads : ℕ) (rs : List TurnRun) → threads ≤ 8 → All (IsPiece threads) rs → All IsWord (map run_text rs)
piece_words threads [] few all = All-nil IsWord
piece_words threads (r ∷ rs) few all = All-cons IsWord (run_text r) (map run_text rs) (piece_word threads r few (All-head (IsPiece threads) r rs all)) (piece_words threads rs few (All-tail (IsPiece threads) r rs all))

-- ---- a schedule

-- the fields of a schedule's line
unfoldable pub schedule_fields : List ℕ → List (List ℕ)
schedule_fields ts = map run_text (pieces_in ts)

fit : (threads : ℕ) (ts : List ℕ) → All (λ t. t < threads) ts → All (IsPiece threads) (pieces_in ts)
fit threads ts all = all_pieces_fit threads (runs_of ts) (runs_fit threads ts all)

pub schedule_words : (threads : ℕ) (ts : List ℕ) → threads ≤ 8 → All (λ t. t < threads) ts → All IsWord (schedule_fields ts)
unfolding schedule_fields
schedule_words threads ts few all = piece_words threads (pieces_in ts) few (fit threads ts all)

turns_said : (threads : ℕ) (ts : List ℕ) → threads ≤ 8 → All (λ t. t < threads) ts → turns_of_all threads (schedule_fields ts) ≡ Ok ts
unfolding schedule_fields
turns_said threads ts few all =
    pieces_said threads (pieces_in ts) few (fit threads ts all)
    ∙ ap (λ (xs : List ℕ). Ok xs) (all_pieces_are (runs_of ts) ∙ runs_are ts)

some_field : (threads t : ℕ) (ts : List ℕ) (fs : List (List ℕ)) → turns_of_all threads fs ≡ Ok (t ∷ ts) → schedule_of threads fs ≡ Ok (Turns (t ∷ ts))
some_field threads t ts [] e = absurd cc
some_field threads t ts (f ∷ fs) e = rw e refl

pub schedule_said : (threads t : ℕ) (ts : List ℕ) → threads ≤ 8 → All (λ u. u < threads) (t ∷ ts) → schedule_of threads (schedule_fields (t ∷ ts)) ≡ Ok (Turns (t ∷ ts))
schedule_said threads t ts few all = some_field threads t ts (schedule_fields (t ∷ ts)) (turns_said threads (t ∷ ts) few all)
