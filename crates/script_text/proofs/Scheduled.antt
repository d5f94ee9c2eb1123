-- A line of a schedule, judged.
use Rattle.std.proofs.Common.{◌≡◌, ℕ, ◌+◌, ◌≤◌, ◌<◌, true, false, ltb, List, [], ◌∷◌, ◌++◌, length, Result, Ok, Err, refl, sym, ap, ◌∙◌, arith, length-append}
use Rattle.std.proofs.lemmas.Bool.{le-ltb, lt-ltb}
use Rattle.heap_terms.specs.declared.faults.Why.{Why}
use Rattle.heap_terms.specs.declared.faults.Why.TheVariants.{Fields}
use Rattle.heap_terms.specs.declared.faults.LimitKind.TheVariants as limits
use Rattle.heap_terms.specs.Fields.{◌>>=◌}
use Rattle.heap_terms.specs.Grammar.{Turns, schedule_of, turns_of_all}
use Rattle.heap_terms.specs.ScriptReading.{SoFar, Bad, Over, InSchedule, within_limits}
use Rattle.script_text.specs.ReaderAnswers.{turns_behind}

-- a schedule without fields
pub schedule_empty : (s : SoFar) (threads : ℕ) (fs : List (List ℕ)) → length fs ≡ 0 → within_limits s (schedule_of threads fs) ≡ Err (Bad Fields)
schedule_empty s threads [] none = refl
schedule_empty s threads (f ∷ fs) none = absurd (omega arith)

behind_fails : (before : List ℕ) (why : Why) (r : Result (List ℕ) Why) → (r >>= λ ts. Ok (before ++ ts)) ≡ Err why → r ≡ Err why
behind_fails before why (Ok ts) h = absurd cc
behind_fails before why (Err w) h = h

behind_gives : (before all : List ℕ) (r : Result (List ℕ) Why) → (r >>= λ ts. Ok (before ++ ts)) ≡ Ok all → (ts : List ℕ) × (r ≡ Ok ts) × (all ≡ before ++ ts)
behind_gives before all (Ok ts) h = (ts, refl, cc)
behind_gives before all (Err w) h = absurd cc

pub schedule_bad : (s : SoFar) (threads : ℕ) (fs : List (List ℕ)) (why : Why) → (length fs ≡ 0 → ⊥) → turns_behind s.program.schedule threads fs ≡ Err why
    → within_limits s (schedule_of threads fs) ≡ Err (Bad why)
schedule_bad s threads [] why some e = absurd (some refl)
schedule_bad s threads (f ∷ fs) why some e =
    let bad = behind_fails s.program.schedule why (turns_of_all threads (f ∷ fs)) e in
    ap (λ (r : Result (List ℕ) Why). within_limits s (r >>= λ ts. Ok (Turns ts))) bad

pub schedule_good : (s : SoFar) (threads : ℕ) (fs : List (List ℕ)) (all : List ℕ) → (length fs ≡ 0 → ⊥) → turns_behind s.program.schedule threads fs ≡ Ok all → length all ≤ 1000000
    → within_limits s (schedule_of threads fs) ≡ Ok (record { place = InSchedule; program = record s.program { schedule = all } })
schedule_good s threads [] all some e most = absurd (some refl)
schedule_good s threads (f ∷ fs) all some e most =
    let good = behind_gives s.program.schedule all (turns_of_all threads (f ∷ fs)) e in
    let within : ltb 1000000 (length s.program.schedule + length good.0) ≡ false =
    le-ltb _ _ (omega (arith, ap length good.2, length-append s.program.schedule good.0)) in
    ap (λ (r : Result (List ℕ) Why). within_limits s (r >>= λ ts. Ok (Turns ts))) good.1 ∙ rw within (ap (λ (ts : List ℕ). Ok (record { place = InSchedule; program = record s.program { schedule = ts } })) (sym good.2))

pub schedule_over : (s : SoFar) (threads : ℕ) (fs : List (List ℕ)) (all : List ℕ) → (length fs ≡ 0 → ⊥) → turns_behind s.program.schedule threads fs ≡ Ok all → 1000000 < length all
    → within_limits s (schedule_of threads fs) ≡ Err (Over limits.Schedule)
schedule_over s threads [] all some e over = absurd (some refl)
schedule_over s threads (f ∷ fs) all some e over =
    let good = behind_gives s.program.schedule all (turns_of_all threads (f ∷ fs)) e in
    let past : ltb 1000000 (length s.program.schedule + length good.0) ≡ true =
    lt-ltb _ _ (omega (arith, ap length good.2, length-append s.program.schedule good.0)) in
    ap (λ (r : Result (List ℕ) Why). within_limits s (r >>= λ ts. Ok (Turns ts))) good.1 ∙ rw past refl

pub ruleset scheduled = (schedule_empty, schedule_bad, schedule_good, schedule_over)
