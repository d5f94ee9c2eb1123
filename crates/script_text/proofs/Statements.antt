-- The rows of the lines that are no commands.
use Rattle.std.proofs.Common.{◌≡◌, ℕ, ◌-◌, ◌^◌, suc, false, eqb, min, List, [], ◌∷◌, length, Result, Ok, Err, refl, ◌∙◌, arith}
use Rattle.std.specs.Prelude.{codes, IfOk, IfErr}
use Rattle.std.proofs.lemmas.Bool.{ne_eqb}
use Rattle.heap_terms.specs.declared.faults.Why.{Why}
use Rattle.heap_terms.specs.declared.faults.Why.TheVariants.{Fields}
use Rattle.heap_terms.specs.Fields.{◌>>=◌, number_of, ranged, between, at_least, is_auto}
use Rattle.heap_terms.specs.Grammar.{FieldForm, Number, Meaning, Statement, Version, HeapOf, AutoOf, NewThread, EndOfScript, schedule_of, row, meaning_of, said_by, rows, statement_of}
use Rattle.script_text.specs.declared.words.Keyword.{Keyword}
use Rattle.script_text.specs.declared.words.Keyword.TheVariants as keywords
use Rattle.script_text.specs.ReaderAnswers.{only_field}
use Rattle.script_text.specs.Words.{text_of}
use Rattle.script_text.specs.Values.{pages_of}

-- a row with one field
one_said : (word : List ℕ) (form : FieldForm) (says : Meaning form → Statement) (fs : List (List ℕ))
    → said_by (row word (form ∷ []) says) fs ≡ (only_field fs >>= λ f. meaning_of form f >>= λ m. Ok (says m))
one_said word form says [] = refl
one_said word form says (f ∷ []) = refl
one_said word form says (f ∷ g ∷ fs) =
    let more : eqb (suc (suc (length fs))) 1 ≡ false = ne_eqb (suc (suc (length fs))) 1 (λ (e : suc (suc (length fs)) ≡ 1). omega arith) in
    rw more refl

version_said : (threads : ℕ) (fs : List (List ℕ)) → statement_of threads (codes "lispheap") fs ≡ (only_field fs >>= λ f. meaning_of (Number (between 1 1)) f >>= λ v. Ok Version)
unfolding statement_of rows
version_said threads fs = one_said (codes "lispheap") (Number (between 1 1)) (λ v. Version) fs

heap_said : (threads : ℕ) (fs : List (List ℕ)) → statement_of threads (codes "heap") fs ≡ (only_field fs >>= λ f. meaning_of (Number (at_least 1)) f >>= λ v. Ok (HeapOf v))
unfolding statement_of rows
heap_said threads fs = one_said (codes "heap") (Number (at_least 1)) (λ v. HeapOf v) fs

pub version_ok : (threads : ℕ) (fs : List (List ℕ)) (f : List ℕ) (n : ℕ) → only_field fs ≡ Ok f → Ok n ≡ ranged (between 1 1) (number_of f) → statement_of threads (codes "lispheap") fs ≡ Ok Version
version_ok threads fs f n only read = version_said threads fs ∙ rw (only, ← read) refl

pub version_bad : (threads : ℕ) (fs : List (List ℕ)) (f : List ℕ) (why : Why) → only_field fs ≡ Ok f → Err why ≡ ranged (between 1 1) (number_of f) → statement_of threads (codes "lispheap") fs ≡ Err why
version_bad threads fs f why only read = version_said threads fs ∙ rw (only, ← read) refl

pub version_fields : (threads : ℕ) (fs : List (List ℕ)) (why : Why) → only_field fs ≡ Err why → statement_of threads (codes "lispheap") fs ≡ Err why
version_fields threads fs why only = version_said threads fs ∙ rw only refl

-- the number of pages as it is, and as a `u64` holds it
heap_number : (f : List ℕ) (pages : ℕ) → Ok pages ≡ pages_of f → (n : ℕ) × (pages ≡ min n (2 ^ 64 - 1)) × (ranged (at_least 1) (number_of f) ≡ Ok n)
heap_number f pages = at (ranged (at_least 1) (number_of f))
  where
    at : (r : Result ℕ Why) → Ok pages ≡ (r >>= λ n. Ok (min n (2 ^ 64 - 1))) → (n : ℕ) × (pages ≡ min n (2 ^ 64 - 1)) × (r ≡ Ok n)
    at (Ok n) e = (n, cc, refl)
    at (Err why) e = absurd cc

heap_fails : (f : List ℕ) (why : Why) → Err why ≡ pages_of f → ranged (at_least 1) (number_of f) ≡ Err why
heap_fails f why = at (ranged (at_least 1) (number_of f))
  where
    at : (r : Result ℕ Why) → Err why ≡ (r >>= λ n. Ok (min n (2 ^ 64 - 1))) → r ≡ Err why
    at (Ok n) e = absurd cc
    at (Err other) e = cc

pub heap_ok : (fs : List (List ℕ)) (f : List ℕ) (pages : ℕ) → only_field fs ≡ Ok f → Ok pages ≡ pages_of f → (n : ℕ) × (pages ≡ min n (2 ^ 64 - 1)) × ((threads : ℕ) → statement_of threads (codes "heap") fs ≡ Ok (HeapOf n))
heap_ok fs f pages only read =
    let p = heap_number f pages read in
    (p.0, p.1, λ threads. heap_said threads fs ∙ rw (only, p.2) refl)

pub heap_bad : (threads : ℕ) (fs : List (List ℕ)) (f : List ℕ) (why : Why) → only_field fs ≡ Ok f → Err why ≡ pages_of f → statement_of threads (codes "heap") fs ≡ Err why
heap_bad threads fs f why only read = let e = heap_fails f why read in heap_said threads fs ∙ rw (only, e) refl

pub heap_fields : (threads : ℕ) (fs : List (List ℕ)) (why : Why) → only_field fs ≡ Err why → statement_of threads (codes "heap") fs ≡ Err why
heap_fields threads fs why only = heap_said threads fs ∙ rw only refl

-- the same of whatever the number of pages was read as
pub heap_good : (fs : List (List ℕ)) (f : List ℕ) (r : Result ℕ Why) → only_field fs ≡ Ok f → r ≡ pages_of f
    → IfOk r (λ pages. (n : ℕ) × (pages ≡ min n (2 ^ 64 - 1)) × ((threads : ℕ) → statement_of threads (codes "heap") fs ≡ Ok (HeapOf n)))
heap_good fs f (Ok pages) only read = heap_ok fs f pages only read
heap_good fs f (Err why) only read = tt

pub heap_bad_result : (fs : List (List ℕ)) (f : List ℕ) (r : Result ℕ Why) → only_field fs ≡ Ok f → r ≡ pages_of f
    → IfErr r (λ why. (threads : ℕ) → statement_of threads (codes "heap") fs ≡ Err why)
heap_bad_result fs f (Ok pages) only read = tt
heap_bad_result fs f (Err why) only read = λ threads. heap_bad threads fs f why only read

auto_said : (threads : ℕ) (fs : List (List ℕ)) → statement_of threads (codes "auto") fs ≡ (only_field fs >>= λ f. meaning_of (Number is_auto) f >>= λ v. Ok (AutoOf v))
unfolding statement_of rows
auto_said threads fs = one_said (codes "auto") (Number is_auto) (λ v. AutoOf v) fs

-- a number of `auto`, whatever it was read as
pub auto_fields : (threads : ℕ) (fs : List (List ℕ)) (why : Why) → only_field fs ≡ Err why → statement_of threads (codes "auto") fs ≡ Err why
auto_fields threads fs why only = auto_said threads fs ∙ rw only refl

pub auto_good : (fs : List (List ℕ)) (f : List ℕ) (r : Result ℕ Why) → only_field fs ≡ Ok f → r ≡ ranged is_auto (number_of f)
    → IfOk r (λ words. (threads : ℕ) → statement_of threads (codes "auto") fs ≡ Ok (AutoOf words))
auto_good fs f (Ok words) only read = λ threads. auto_said threads fs ∙ rw (only, ← read) refl
auto_good fs f (Err why) only read = tt

pub auto_bad : (fs : List (List ℕ)) (f : List ℕ) (r : Result ℕ Why) → only_field fs ≡ Ok f → r ≡ ranged is_auto (number_of f)
    → IfErr r (λ why. (threads : ℕ) → statement_of threads (codes "auto") fs ≡ Err why)
auto_bad fs f (Ok words) only read = tt
auto_bad fs f (Err why) only read = λ threads. auto_said threads fs ∙ rw (only, ← read) refl

-- the lines of a word alone
pub thread_good : (word : Keyword) (threads : ℕ) (fs : List (List ℕ)) → word ≡ keywords.Thread → length fs ≡ 0 → statement_of threads (text_of word) fs ≡ Ok NewThread
unfolding statement_of rows
thread_good word threads [] e none = rw e refl
thread_good word threads (f ∷ fs) e none = absurd (omega arith)

pub thread_bad : (word : Keyword) (threads : ℕ) (fs : List (List ℕ)) → word ≡ keywords.Thread → (length fs ≡ 0 → ⊥) → statement_of threads (text_of word) fs ≡ Err Fields
unfolding statement_of rows
thread_bad word threads fs e some = let more : eqb (length fs) 0 ≡ false = ne_eqb (length fs) 0 some in rw (e, more) refl

pub end_good : (word : Keyword) (threads : ℕ) (fs : List (List ℕ)) → word ≡ keywords.End → length fs ≡ 0 → statement_of threads (text_of word) fs ≡ Ok EndOfScript
unfolding statement_of rows
end_good word threads [] e none = rw e refl
end_good word threads (f ∷ fs) e none = absurd (omega arith)

pub end_bad : (word : Keyword) (threads : ℕ) (fs : List (List ℕ)) → word ≡ keywords.End → (length fs ≡ 0 → ⊥) → statement_of threads (text_of word) fs ≡ Err Fields
unfolding statement_of rows
end_bad word threads fs e some = let more : eqb (length fs) 0 ≡ false = ne_eqb (length fs) 0 some in rw (e, more) refl

pub schedule_said : (word : Keyword) (threads : ℕ) (fs : List (List ℕ)) → word ≡ keywords.Schedule → statement_of threads (text_of word) fs ≡ schedule_of threads fs
unfolding statement_of
schedule_said word threads fs e = rw e refl

pub ruleset words = (thread_good, thread_bad, end_good, end_bad, schedule_said)
