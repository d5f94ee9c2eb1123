-- The turns of a schedule, field by field.
use Rattle.std.proofs.Common.{◌≡◌, ℕ, zero, suc, ◌+◌, List, [], ◌∷◌, ◌++◌, replicate, Result, Ok, Err, refl, sym, ap, ◌∙◌, append_assoc, add-one}
use Rattle.std.proofs.lemmas.List.{append-nil}
use Rattle.heap_terms.specs.declared.faults.Why.{Why}
use Rattle.heap_terms.specs.Fields.{◌>>=◌, turns_of}
use Rattle.heap_terms.specs.Grammar.{turns_of_all}
use Rattle.script_text.specs.declared.turns.Turns.{Turns}
use Rattle.script_text.specs.ReaderAnswers.{turns_behind}
use Rattle.script_text.specs.Left.{fields_left, Taken, NoneLeft}
use Rattle.script_text.specs.Values.{one_by_one}

pub replicate-suc : (n x : ℕ) → replicate (n + 1) x ≡ replicate n x ++ x ∷ []
replicate-suc zero x = refl
replicate-suc (suc n) x = rw add-one (ap (λ (xs : List ℕ). x ∷ xs) (rw add-one at (replicate-suc n x)))

regroup : (before ts : List ℕ) (r : Result (List ℕ) Why) → (r >>= λ more. Ok (ts ++ more)) >>= (λ all. Ok (before ++ all)) ≡ (r >>= λ more. Ok ((before ++ ts) ++ more))
regroup before ts (Ok more) = ap (λ (xs : List ℕ). Ok xs) (sym (append_assoc before ts more))
regroup before ts (Err e) = refl

-- a good field is behind those before
pub behind_more : (before : List ℕ) (threads : ℕ) (field : List ℕ) (fields : List (List ℕ)) (t : Turns) → one_by_one (Ok t) ≡ turns_of threads field
    → turns_behind before threads (field ∷ fields) ≡ turns_behind (before ++ replicate t.count t.thread) threads fields
behind_more before threads field fields t e = rw (← e) (regroup before (replicate t.count t.thread) (turns_of_all threads fields))

-- a bad field decides
pub behind_bad : (before : List ℕ) (threads : ℕ) (field : List ℕ) (fields : List (List ℕ)) (why : Why) → one_by_one (Err why) ≡ turns_of threads field → turns_behind before threads (field ∷ fields) ≡ Err why
behind_bad before threads field fields why e = rw (← e) refl

pub behind_none : (before : List ℕ) (threads : ℕ) → turns_behind before threads [] ≡ Ok before
behind_none before threads = ap (λ (xs : List ℕ). Ok xs) (append-nil before)

-- what stands before is no reason to fail
pub bad_behind : (before : List ℕ) (threads : ℕ) (fields : List (List ℕ)) (why : Why) → turns_of_all threads fields ≡ Err why → turns_behind before threads fields ≡ Err why
bad_behind before threads fields why e = rw e refl

pub behind_bad_back : (before : List ℕ) (threads : ℕ) (fields : List (List ℕ)) (why : Why) → turns_behind before threads fields ≡ Err why → turns_of_all threads fields ≡ Err why
behind_bad_back before threads fields why e = bad_from (turns_of_all threads fields) e
  where
    bad_from : (r : Result (List ℕ) Why) → (r >>= λ ts. Ok (before ++ ts)) ≡ Err why → r ≡ Err why
    bad_from (Ok ts) h = absurd cc
    bad_from (Err w) h = h

-- all turns, where all fields are good
pub all_behind : (before : List ℕ) (threads : ℕ) (fields : List (List ℕ)) (ts : List ℕ) → turns_of_all threads fields ≡ Ok ts → turns_behind before threads fields ≡ Ok (before ++ ts)
all_behind before threads fields ts e = rw e refl

pub none_behind : (threads : ℕ) (fields : List (List ℕ)) → turns_of_all threads fields ≡ turns_behind [] threads fields
none_behind threads fields = same (turns_of_all threads fields)
  where
    same : (r : Result (List ℕ) Why) → r ≡ (r >>= λ ts. Ok ([] ++ ts))
    same (Ok ts) = refl
    same (Err e) = refl

-- ---- the cursor

pub taken_more : (before : List ℕ) (threads : ℕ) (old field new : List ℕ) (t : Turns) (all : Result (List ℕ) Why) → all ≡ turns_behind before threads (fields_left old) → Taken old field new → one_by_one (Ok t) ≡ turns_of threads field
    → all ≡ turns_behind (before ++ replicate t.count t.thread) threads (fields_left new)
taken_more before threads old field new t all so_far taken e =
    so_far ∙ ap (turns_behind before threads) taken.fields ∙ behind_more before threads field (fields_left new) t e

pub taken_bad : (before : List ℕ) (threads : ℕ) (old field new : List ℕ) (why : Why) (all : Result (List ℕ) Why) → all ≡ turns_behind before threads (fields_left old) → Taken old field new → one_by_one (Err why) ≡ turns_of threads field → all ≡ Err why
taken_bad before threads old field new why all so_far taken e =
    so_far ∙ ap (turns_behind before threads) taken.fields ∙ behind_bad before threads field (fields_left new) why e

pub taken_none : (before : List ℕ) (threads : ℕ) (old new : List ℕ) (all : Result (List ℕ) Why) → all ≡ turns_behind before threads (fields_left old) → NoneLeft old new → all ≡ Ok before
taken_none before threads old new all so_far none =
    so_far ∙ ap (turns_behind before threads) none.before ∙ behind_none before threads
