-- The runs of a schedule, one after the other.
use Rattle.std.proofs.Common.{◌≡◌, ℕ, zero, suc, ◌+◌, ◌≤◌, ◌<◌, false, eqb, List, [], ◌∷◌, ◌++◌, length, drop, replicate, get_or, refl, sym, ap, ◌∙◌, inl, inr, arith, append_assoc, append-nil, add-one}
use Rattle.std.specs.Prelude.{flat_map, slice_index, codes}
use Rattle.std.proofs.lemmas.Bool.{cases_Bool, ne_eqb, eq-eqb, eqb-true}
use Rattle.std.proofs.lemmas.Grind.{flat_map-append}
use Rattle.std.proofs.lemmas.List.{take-append-drop}
use Rattle.heap_terms.specs.ScriptPrinting.{TurnRun, with_turn, runs_of, pieces_of, pieces_in, run_text, schedule_text}
use Rattle.heap_terms.specs.Text.{field}
use Rattle.script_text.specs.Runs.{IsRunAtFront, pieces_text, runs_text, run_pieces_text}

-- the first run is of the first turn's thread
first_run : (t : ℕ) (ts : List ℕ) → (k : ℕ) × (more : List TurnRun) × (runs_of (t ∷ ts) ≡ record { thread = t; count = k } ∷ more)
unfolding runs_of
first_run t ts = at (runs_of ts)
  where
    at : (runs : List TurnRun) → (k : ℕ) × (more : List TurnRun) × (with_turn t runs ≡ record { thread = t; count = k } ∷ more)
    at [] = (1, [], refl)
    at (r ∷ runs) = elim (cases_Bool (eqb t r.thread)) [
      | inl same ↦ (r.count + 1, runs, rw same (ap (λ (u : ℕ). record { thread = u; count = r.count + 1 } ∷ runs) (sym (eqb-true t r.thread same))))
      | inr other ↦ (1, r ∷ runs, rw other refl)
    ]

-- no turn of this thread stands at the front
abbrev NotFirst : ℕ → List ℕ → Type 0
NotFirst t [] = Unit {0}
NotFirst t (u ∷ us) = u ≡ t → ⊥

one_turn : (t : ℕ) (rest : List ℕ) → NotFirst t rest → runs_of (t ∷ rest) ≡ record { thread = t; count = 1 } ∷ runs_of rest
unfolding runs_of
one_turn t [] other = refl
one_turn t (u ∷ us) other =
    let f = first_run u us in
    let apart : eqb t u ≡ false = ne_eqb t u (λ (e : t ≡ u). other (sym e)) in
    ap (with_turn t) f.2 ∙ rw apart refl ∙ ap (λ (runs : List TurnRun). record { thread = t; count = 1 } ∷ runs) (sym f.2)

whole_run : (count t : ℕ) (rest : List ℕ) → 0 < count → NotFirst t rest → runs_of (replicate count t ++ rest) ≡ record { thread = t; count = count } ∷ runs_of rest
unfolding runs_of
whole_run zero t rest some other = absurd (omega arith)
whole_run (suc zero) t rest some other = one_turn t rest other
whole_run (suc (suc k)) t rest some other =
    ap (with_turn t) (whole_run (suc k) t rest (omega arith) other)
    ∙ rw (eq-eqb t t refl, add-one) refl

not_first : (turns : List ℕ) (count t : ℕ) → count ≤ length turns → (count < length turns → get_or turns count 0 ≡ t → ⊥) → NotFirst t (drop count turns)
not_first [] zero t within ends = tt
not_first [] (suc count) t within ends = absurd (omega arith)
not_first (u ∷ us) zero t within ends = λ e. ends (omega arith) e
not_first (u ∷ us) (suc count) t within ends = not_first us count t (omega arith) (λ lt e. ends (omega arith) e)

pub run_first : (turns : List ℕ) (count : ℕ) → IsRunAtFront turns count → runs_text turns ≡ run_pieces_text (slice_index turns 0) count ++ runs_text (drop count turns)
unfolding runs_text
run_first turns count r =
    let t = slice_index turns 0 in
    let parts : turns ≡ replicate count t ++ drop count turns = sym (take-append-drop count turns) ∙ ap (λ (front : List ℕ). front ++ drop count turns) r.same in
    let runs = ap runs_of parts ∙ whole_run count t (drop count turns) r.some (not_first turns count t r.within r.ends) in
    ap (λ (rs : List TurnRun). pieces_text (flat_map pieces_of rs)) runs
    ∙ flat_map-append (λ (p : TurnRun). field (run_text p)) (pieces_of (record { thread = t; count = count })) (pieces_in (drop count turns))

-- one more run is printed
pub run_more : (out start printed : List ℕ) (turns rest all : List ℕ) (count : ℕ) → IsRunAtFront turns count → rest ≡ drop count turns → printed ≡ out ++ run_pieces_text (slice_index turns 0) count →
    out ++ runs_text turns ≡ start ++ runs_text all → printed ++ runs_text rest ≡ start ++ runs_text all
run_more out start printed turns rest all count r back text so_far =
    rw (text, back) (append_assoc out (run_pieces_text (slice_index turns 0) count) (runs_text (drop count turns)) ∙ ap (λ (more : List ℕ). out ++ more) (sym (run_first turns count r)) ∙ so_far)

-- one more full piece is printed
pub piece_more : (t k : ℕ) → pieces_text (replicate (k + 1) (record { thread = t; count = 65535 })) ≡ pieces_text (replicate k (record { thread = t; count = 65535 })) ++ field (run_text (record { thread = t; count = 65535 }))
piece_more t k = rw add-one (at k)
  where
    at : (k : ℕ) → pieces_text (replicate (suc k) (record { thread = t; count = 65535 })) ≡ pieces_text (replicate k (record { thread = t; count = 65535 })) ++ field (run_text (record { thread = t; count = 65535 }))
    at zero = append-nil _
    at (suc k) =
        let one = field (run_text (record { thread = t; count = 65535 })) in
        let more = pieces_text (replicate k (record { thread = t; count = 65535 })) in
        ap (λ (text : List ℕ). one ++ text) (at k) ∙ sym (append_assoc one more one)

-- no turn is left
pub runs_done : runs_text [] ≡ []
unfolding runs_text runs_of
runs_done = refl

pub all_printed : (out start left all : List ℕ) → length left ≡ 0 → out ++ runs_text left ≡ start ++ runs_text all → out ≡ start ++ runs_text all
all_printed out start [] all none so_far = sym (append-nil out) ∙ ap (λ (more : List ℕ). out ++ more) (sym runs_done) ∙ so_far
all_printed out start (t ∷ left) all none so_far = absurd (omega arith)

-- the line of a schedule that has a turn
pub schedule_is : (out : List ℕ) (turns : List ℕ) → 0 < length turns → out ++ codes "schedule" ++ runs_text turns ++ codes "\n" ≡ out ++ schedule_text turns
unfolding runs_text
schedule_is out [] some = absurd (omega arith)
schedule_is out (t ∷ ts) some =
    append_assoc (out ++ codes "schedule") (pieces_text (pieces_in (t ∷ ts))) (codes "\n")
    ∙ append_assoc out (codes "schedule") (pieces_text (pieces_in (t ∷ ts)) ++ codes "\n")
