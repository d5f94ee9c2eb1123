-- A program that is read is valid.
use Rattle.std.proofs.Common.{◌≡◌, ℕ, ◌+◌, ◌≤◌, ◌<◌, Bool, true, false, cond, eqb, ltb, not, List, [], ◌∷◌, ◌++◌, length, Option, Some, None, Result, Ok, Err, refl, subst, arith, inl, length-append}
use Rattle.std.specs.Prelude.{sum_by, count_by, slice_index}
use Rattle.std.specs.List.{All}
use Rattle.std.specs.Str.Lines.{lines}
use Rattle.std.proofs.lemmas.Bool.{ltb-false, false≢true}
use Rattle.std.proofs.lemmas.List.Elements.{All-nil, All-cons, All-head, All-tail, All-push, All-append, All-weaker}
use Rattle.std.proofs.lemmas.List.Sums.{sum_by-append}
use Rattle.heap_terms.specs.declared.commands.Command.{Command}
use Rattle.heap_terms.specs.declared.faults.LimitKind.{LimitKind}
use Rattle.heap_terms.specs.declared.faults.LimitKind.TheVariants as limits
use Rattle.heap_terms.specs.declared.faults.Why.{Why}
use Rattle.heap_terms.specs.declared.faults.Why.TheVariants.{Word, Order}
use Rattle.heap_terms.specs.declared.programs.Program.{Program}
use Rattle.heap_terms.specs.Fields.{fields_in}
use Rattle.heap_terms.specs.Grammar.{Statement, Version, HeapOf, AutoOf, NewThread, Does, Turns, EndOfScript, statement_of}
use Rattle.heap_terms.specs.ScriptReading.{Place, AtStart, AfterVersion, AfterHeap, AfterAuto, InThread, InSchedule, AfterEnd, SoFar, nothing_read, Refused, Bad, may_follow, place_after, onto_last, with_statement, unless_above, limit_of_command, limit_passed, unless_passed, within_limits, judged_word, judged, Fault, fault_at, finished_at, read_lines, read_script}
use Rattle.heap_terms.specs.Valid.{IsCommand, IsValid, IsAuto, is_built, is_gc}
use Rattle.script_text.proofs.Sums.{length-onto_last, commands-onto_last, gcs-onto_last}
use Rattle.script_text.proofs.Allowed.{HasHeap, HasThread, May, says}

-- ---- the lines so far

-- the program has what its place tells
unfoldable pub Placed : Place → Program → Type 0
Placed AtStart p = Unit {0}
Placed AfterVersion p = Unit {0}
Placed AfterHeap p = (1 ≤ p.pages) × (p.pages ≤ 1024)
Placed AfterAuto p = (1 ≤ p.pages) × (p.pages ≤ 1024)
Placed _ p = (1 ≤ p.pages) × (p.pages ≤ 1024) × (1 ≤ length p.threads)

pub record Good (place : Place) (p : Program) : Type 0 where
  pub placed : Placed place p
  auto : IsAuto p.auto
  threads_most : length p.threads ≤ 8
  commands : All (All IsCommand) p.threads
  commands_most : sum_by length p.threads ≤ 20000
  gcs_most : sum_by (count_by is_gc) p.threads ≤ 64
  schedule : All (λ t. t < length p.threads) p.schedule
  schedule_most : length p.schedule ≤ 1000000

pub nothing_good : Good AtStart nothing_read.program
unfolding Placed
nothing_good = record {
  placed = tt;
  auto = inl refl;
  threads_most = omega arith;
  commands = All-nil _;
  commands_most = omega arith;
  gcs_most = omega arith;
  schedule = All-nil _;
  schedule_most = omega arith;
}

-- ---- one more line

not_above : (limit n : ℕ) (kind : LimitKind) → unless_above limit n kind ≡ None → n ≤ limit
not_above limit n kind e = at (ltb limit n) (λ h. ltb-false limit n h) e
  where
    at : (b : Bool) → (b ≡ false → n ≤ limit) → cond b (Some kind) None ≡ None → n ≤ limit
    at true h e = absurd cc
    at false h e = h refl

placed_heap : (place : Place) (p : Program) → HasHeap place → Placed place p → (1 ≤ p.pages) × (p.pages ≤ 1024)
unfolding HasHeap Placed
placed_heap AtStart p h g = absurd h
placed_heap AfterVersion p h g = absurd h
placed_heap AfterHeap p h g = g
placed_heap AfterAuto p h g = g
placed_heap InThread p h g = (g.0, g.1)
placed_heap InSchedule p h g = (g.0, g.1)
placed_heap AfterEnd p h g = (g.0, g.1)

placed_thread : (place : Place) (p : Program) → HasThread place → Placed place p → (1 ≤ p.pages) × (p.pages ≤ 1024) × (1 ≤ length p.threads)
unfolding HasThread Placed
placed_thread AtStart p h g = absurd h
placed_thread AfterVersion p h g = absurd h
placed_thread AfterHeap p h g = absurd h
placed_thread AfterAuto p h g = absurd h
placed_thread InThread p h g = g
placed_thread InSchedule p h g = g
placed_thread AfterEnd p h g = g

All-onto_last : (P : Command → Type 0) (ts : List (List Command)) (c : Command) → P c → All (All P) ts → All (All P) (onto_last ts c)
All-onto_last P [] c h all = all
All-onto_last P (t ∷ []) c h all = All-cons (All P) (t ++ c ∷ []) [] (All-push P t c (All-head (All P) t [] all) h) (All-nil (All P))
All-onto_last P (t ∷ u ∷ ts) c h all = All-cons (All P) t (onto_last (u ∷ ts) c) (All-head (All P) t (u ∷ ts) all) (All-onto_last P (u ∷ ts) c h (All-tail (All P) t (u ∷ ts) all))

-- what the limit of a command leaves
record Room (threads : List (List Command)) (gc : Bool) : Type 0 where
  commands : sum_by length threads + 1 ≤ 20000
  gcs : gc ≡ true → sum_by (count_by is_gc) threads + 1 ≤ 64

room : (threads : List (List Command)) (gc : Bool) → limit_of_command threads gc ≡ None → Room threads gc
room threads gc e = at (ltb 20000 (sum_by length threads + 1)) gc (λ h. ltb-false _ _ h) e
  where
    at : (b gc : Bool) → (b ≡ false → sum_by length threads + 1 ≤ 20000) → cond b (Some limits.Commands) (cond gc (unless_above 64 (sum_by (count_by is_gc) threads + 1) limits.Gcs) None) ≡ None → Room threads gc
    at true gc h e = absurd cc
    at false true h e = record { commands = h refl; gcs = λ g. not_above 64 (sum_by (count_by is_gc) threads + 1) limits.Gcs e }
    at false false h e = record { commands = h refl; gcs = λ g. absurd (false≢true g) }

gcs_within : (n : ℕ) (gc : Bool) → n ≤ 64 → (gc ≡ true → n + 1 ≤ 64) → n + cond gc 1 0 ≤ 64
gcs_within n true most h = h refl
gcs_within n false most h = omega arith

command_good : (place : Place) (p : Program) (c : Command) → IsCommand c → HasThread place → Good place p → limit_of_command p.threads (is_gc c) ≡ None → Good InThread (with_statement p (Does c))
unfolding Placed
command_good place p c command h g none =
    let t = placed_thread place p h g.placed in
    let r = room p.threads (is_gc c) none in
    let len = length-onto_last p.threads c in
    let some : 0 < length p.threads = omega (arith, t.2) in
    record {
      placed = (t.0, t.1, omega (arith, len, t.2));
      auto = g.auto;
      threads_most = omega (arith, len, g.threads_most);
      commands = All-onto_last IsCommand p.threads c command g.commands;
      commands_most = omega (arith, commands-onto_last p.threads c some, r.commands);
      gcs_most = let e = gcs-onto_last p.threads c some in let w = gcs_within (sum_by (count_by is_gc) p.threads) (is_gc c) g.gcs_most r.gcs in omega (arith, e, w);
      schedule = All-weaker (λ t. t < length p.threads) (λ t. t < length (onto_last p.threads c)) (λ t lt. omega (arith, len, lt)) p.schedule g.schedule;
      schedule_most = g.schedule_most;
    }

thread_good : (place : Place) (p : Program) → HasHeap place → Good place p → unless_above 8 (length p.threads + 1) limits.Threads ≡ None → Good InThread (with_statement p NewThread)
unfolding Placed
thread_good place p h g none =
    let t = placed_heap place p h g.placed in
    let len = length-append p.threads ([] ∷ []) in
    let most = not_above 8 (length p.threads + 1) limits.Threads none in
    record {
      placed = (t.0, t.1, omega (arith, len));
      auto = g.auto;
      threads_most = omega (arith, len, most);
      commands = All-push (All IsCommand) p.threads [] g.commands (All-nil IsCommand);
      commands_most = omega (arith, sum_by-append (length {A = Command}) p.threads ([] ∷ []), g.commands_most);
      gcs_most = omega (arith, sum_by-append (count_by is_gc) p.threads ([] ∷ []), g.gcs_most);
      schedule = All-weaker (λ t. t < length p.threads) (λ t. t < length (p.threads ++ [] ∷ [])) (λ t lt. omega (arith, len, lt)) p.schedule g.schedule;
      schedule_most = g.schedule_most;
    }

line_good : (place : Place) (p : Program) (st : Statement) → May place (length p.threads) st → Good place p → limit_passed p st ≡ None → Good (place_after st) (with_statement p st)
unfolding May Placed
line_good place p Version may g none = record {
  placed = tt;
  auto = g.auto;
  threads_most = g.threads_most;
  commands = g.commands;
  commands_most = g.commands_most;
  gcs_most = g.gcs_most;
  schedule = g.schedule;
  schedule_most = g.schedule_most;
}
line_good place p (HeapOf n) may g none = record {
  placed = (may, not_above 1024 n limits.Pages none);
  auto = g.auto;
  threads_most = g.threads_most;
  commands = g.commands;
  commands_most = g.commands_most;
  gcs_most = g.gcs_most;
  schedule = g.schedule;
  schedule_most = g.schedule_most;
}
line_good place p (AutoOf n) may g none = record {
  placed = placed_heap place p may.1 g.placed;
  auto = may.0;
  threads_most = g.threads_most;
  commands = g.commands;
  commands_most = g.commands_most;
  gcs_most = g.gcs_most;
  schedule = g.schedule;
  schedule_most = g.schedule_most;
}
line_good place p NewThread may g none = thread_good place p may g none
line_good place p (Does c) may g none = command_good place p c may.0 may.1 g none
line_good place p (Turns ts) may g none = record {
  placed = placed_thread place p may.1 g.placed;
  auto = g.auto;
  threads_most = g.threads_most;
  commands = g.commands;
  commands_most = g.commands_most;
  gcs_most = g.gcs_most;
  schedule = All-append (λ t. t < length p.threads) p.schedule ts g.schedule may.0;
  schedule_most = omega (arith, not_above 1000000 (length p.schedule + length ts) limits.Schedule none, length-append p.schedule ts);
}
line_good place p EndOfScript may g none = record {
  placed = placed_thread place p may g.placed;
  auto = g.auto;
  threads_most = g.threads_most;
  commands = g.commands;
  commands_most = g.commands_most;
  gcs_most = g.gcs_most;
  schedule = g.schedule;
  schedule_most = g.schedule_most;
}

-- ---- all lines

abbrev GoodSoFar : SoFar → Type 0
GoodSoFar s = Good s.place s.program

abbrev as_read : SoFar → Result SoFar Refused
as_read s = Ok s

ok_same : (s t : SoFar) → as_read s ≡ as_read t → s ≡ t
ok_same s t e = cc

passed_good : (s : SoFar) (st : Statement) (next : SoFar) → May s.place (length s.program.threads) st → GoodSoFar s → unless_passed s st (limit_passed s.program st) ≡ Ok next → GoodSoFar next
passed_good s st next may g e = at (limit_passed s.program st) (λ none. line_good s.place s.program st may g none) e
  where
    at : (o : Option LimitKind) → (o ≡ None → Good (place_after st) (with_statement s.program st)) → unless_passed s st o ≡ Ok next → GoodSoFar next
    at None h e = subst GoodSoFar (ok_same (record { place = place_after st; program = with_statement s.program st }) next e) (h refl)
    at (Some kind) h e = absurd cc

limits_good : (s : SoFar) (r : Result Statement Why) (next : SoFar) → ((st : Statement) → r ≡ Ok st → May s.place (length s.program.threads) st) → GoodSoFar s → within_limits s r ≡ Ok next → GoodSoFar next
limits_good s (Ok st) next may g e = passed_good s st next (may st refl) g e
limits_good s (Err why) next may g e = absurd cc

past_test : {A E : Type 0} (b : Bool) (d : E) (x : Result A E) (y : A) → cond (not b) (Err d) x ≡ Ok y → (b ≡ true) × (x ≡ Ok y)
past_test true d x y e = (refl, e)
past_test false d x y e = absurd cc

word_good : (s : SoFar) (word : List ℕ) (fs : List (List ℕ)) (next : SoFar) → GoodSoFar s → judged_word s word fs ≡ Ok next → GoodSoFar next
unfolding judged_word
word_good s word fs next g e =
    let built = past_test (is_built word) (Bad Word) _ next e in
    let placed = past_test (may_follow s.place word) (Bad Order) _ next built.1 in
    limits_good s (statement_of (length s.program.threads) word fs) next
    (λ st said. says s.place (length s.program.threads) word built.0 placed.0 fs st said) g placed.1

judged_good : (s : SoFar) (fs : List (List ℕ)) (next : SoFar) → GoodSoFar s → judged s fs ≡ Ok next → GoodSoFar next
unfolding judged
judged_good s [] next g e = subst GoodSoFar (ok_same s next e) g
judged_good s (word ∷ fs) next g e = at (eqb (slice_index word 0) 59) e
  where
    at : (b : Bool) → cond b (Ok s) (judged_word s word fs) ≡ Ok next → GoodSoFar next
    at true e = subst GoodSoFar (ok_same s next e) g
    at false e = word_good s word fs next g e

finished_valid : (place : Place) (p q : Program) (number : ℕ) → Good place p → finished_at place p number ≡ Ok q → IsValid q
unfolding Placed
finished_valid AfterEnd p q number g e =
    let same : p ≡ q = cc in
    subst IsValid same (record {
      pages_least = g.placed.0;
      pages_most = g.placed.1;
      auto = g.auto;
      threads_least = g.placed.2;
      threads_most = g.threads_most;
      commands = g.commands;
      commands_most = g.commands_most;
      gcs_most = g.gcs_most;
      schedule = g.schedule;
      schedule_most = g.schedule_most;
    })
finished_valid AtStart p q number g e = absurd cc
finished_valid AfterVersion p q number g e = absurd cc
finished_valid AfterHeap p q number g e = absurd cc
finished_valid AfterAuto p q number g e = absurd cc
finished_valid InThread p q number g e = absurd cc
finished_valid InSchedule p q number g e = absurd cc

one_valid : (r : Result SoFar Refused) (line : ℕ) (rest : SoFar → Result Program Fault) (p : Program) → ((next : SoFar) → r ≡ Ok next → rest next ≡ Ok p → IsValid p)
    → ◌≡◌ {A = Result Program Fault} (elim r [ Ok next ↦ rest next | Err refused ↦ Err (fault_at line refused) ]) (Ok p) → IsValid p
one_valid (Ok next) line rest p h e = h next refl e
one_valid (Err refused) line rest p h e = absurd cc

lines_valid : (s : SoFar) (line : ℕ) (ls : List (List ℕ)) (p : Program) → GoodSoFar s → read_lines s line ls ≡ Ok p → IsValid p
unfolding read_lines
lines_valid s line [] p g e = finished_valid s.place s.program p line g e
lines_valid s line (l ∷ ls) p g e =
    one_valid (judged s (fields_in l)) line (λ next. read_lines next (line + 1) ls) p
    (λ next h more. lines_valid next (line + 1) ls p (judged_good s (fields_in l) next g h) more) e

-- a program that is read is valid
pub read_valid : (bytes : List ℕ) (p : Program) → read_script bytes ≡ Ok p → IsValid p
unfolding read_script
read_valid bytes p e = lines_valid nothing_read 1 (lines bytes) p nothing_good e
