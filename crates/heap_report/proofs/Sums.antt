-- The numbers of a summary, one event and one pass after the other.
use Rattle.std.proofs.Common.{◌≡◌, ℕ, ◌+◌, ◌-◌, ◌≤◌, ◌^◌, List, [], ◌∷◌, length, take, refl, ap, ◌∙◌, arith, inl, inr, cond, Option, Some, None}
use Rattle.std.specs.Prelude.{fold, sum_by, count_by, is_none, is_some}
use Rattle.std.proofs.Math.Nat.{zero-add}
use Rattle.std.proofs.Math.Seq.{take-length}
use Rattle.std.proofs.lemmas.Bool.{cases_Bool}
use Rattle.std.proofs.lemmas.List.Sums.{sum_by-cons}
use Rattle.heap_terms.specs.declared.answers.Answer.{Answer}
use Rattle.heap_terms.specs.declared.events.Event.{Event}
use Rattle.heap_terms.specs.declared.events.Event.TheVariants.{Did, Opened, Collected, Ended}
use Rattle.heap_terms.specs.declared.events.PassRecord.{PassRecord}
use Rattle.heap_terms.specs.declared.events.Placing.{Placing}
use Rattle.heap_terms.specs.declared.programs.Program.{Program}
use Rattle.heap_terms.specs.declared.totals.Totals.{Totals}
use Rattle.heap_terms.specs.Summary.{capped, is_placed, is_commit, is_collection, passes_of, over_passes, moves_in, stays_in, totals_of}
use Rattle.heap_report.specs.Counting.{before_events, with_commit, with_event, with_pass, with_passes}

-- a number that is capped in between is the same
pub capped_twice : (a b : ℕ) → capped (capped a + b) ≡ capped (a + b)
capped_twice a b = omega arith

capped_more : (x a b s : ℕ) → x ≡ capped (a + b) → capped (x + s) ≡ capped (a + (b + s))
capped_more x a b s e = omega (arith, e)

-- at the end of a list all of it was taken
pub taken_all : {A : Type 0} (xs : List A) (i : ℕ) → length xs ≤ i → i ≤ length xs → take i xs ≡ xs
taken_all xs i above below = ap (λ k. take k xs) (omega arith) ∙ take-length xs

-- the moves that are no stays
pub moves_apart : (ms : List Placing) → count_by (λ m. is_some m.new) ms + count_by (λ m. is_none m.new) ms ≡ length ms
moves_apart [] = refl
moves_apart (m ∷ ms) =
    let more = moves_apart ms in
    let moved = sum_by-cons (λ (x : Placing). cond (is_some x.new) 1 0) m ms in
    let stayed = sum_by-cons (λ (x : Placing). cond (is_none x.new) 1 0) m ms in
    let one = either m.new in
    omega (arith, more, moved, stayed, one)
  where
    either : (o : Option ℕ) → cond (is_some o) 1 0 + cond (is_none o) 1 0 ≡ 1
    either (Some x) = refl
    either None = refl

-- ---- the numbers of passes

-- a number that each pass adds to, and nothing else does
pub record OfPasses (get : Totals → ℕ) (own : PassRecord → ℕ) : Type 0 where
  pub pass : (t : Totals) (r : PassRecord) → get (with_pass t r) ≡ capped (get t + own r)
  pub commit : (t : Totals) (n : ℕ) → get (record t { objects = n }) ≡ get t
  pub collection : (t : Totals) (n : ℕ) → get (record t { collections = n }) ≡ get t

module _ {get : Totals → ℕ} {own : PassRecord → ℕ} (of : OfPasses get own) where
  added_by_passes : (rs : List PassRecord) (t : Totals) → get t ≤ 2 ^ 64 - 1 → get (fold with_pass t rs) ≡ capped (get t + sum_by own rs)
  added_by_passes [] t within = omega arith
  added_by_passes (r ∷ rs) t within =
      let one = of.pass t r in
      let more = added_by_passes rs (with_pass t r) (omega (arith, one)) in
      let sum = sum_by-cons own r rs in
      omega (arith, one, more, sum)

  kept_by_answer : (t : Totals) (answer : Answer) → get (with_commit t answer) ≡ get t
  kept_by_answer t answer = elim (cases_Bool (is_placed answer)) [
    | inl placed ↦ rw placed (of.commit t (capped (t.objects + 1)))
    | inr not ↦ rw not refl
  ]

  added_by_event : (e : Event) (t : Totals) → get t ≤ 2 ^ 64 - 1 → get (with_event t e) ≡ capped (get t + sum_by own (passes_of e))
  unfolding with_event with_passes
  added_by_event (Did th c answer) t within = kept_by_answer t answer ∙ omega arith
  added_by_event (Opened th ty first k) t within = omega arith
  added_by_event (Ended th) t within = omega arith
  added_by_event (Collected th last passes) t within =
      let same = of.collection t (capped (t.collections + 1)) in
      let more = added_by_passes passes (record t { collections = capped (t.collections + 1) }) (omega (arith, same)) in
      omega (arith, same, more)

  added_by_events : (es : List Event) (t : Totals) → get t ≤ 2 ^ 64 - 1 → get (fold with_event t es) ≡ capped (get t + over_passes own es)
  added_by_events [] t within = omega arith
  added_by_events (e ∷ es) t within =
      let one = added_by_event e t within in
      let more = added_by_events es (with_event t e) (omega (arith, one)) in
      let sum = sum_by-cons (λ (x : Event). sum_by own (passes_of x)) e es in
      omega (arith, one, more, sum)

-- ---- the numbers that no pass adds to

-- a number to which each event adds its own
module _ (get : Totals → ℕ) (own : Event → ℕ) (one_event : (t : Totals) (e : Event) → get t ≤ 2 ^ 64 - 1 → get (with_event t e) ≡ capped (get t + own e)) where
  summed : (es : List Event) (t : Totals) → get t ≤ 2 ^ 64 - 1 → get (fold with_event t es) ≡ capped (get t + sum_by own es)
  summed [] t within = omega arith
  summed (e ∷ es) t within =
      let one = one_event t e within in
      let more = summed es (with_event t e) (omega (arith, one)) in
      let sum = sum_by-cons own e es in
      omega (arith, one, more, sum)

-- a number that passes leave as it is
module _ {A : Type 0} (get : Totals → A) (kept : (t : Totals) (r : PassRecord) → get (with_pass t r) ≡ get t) where
  kept_by_passes : (rs : List PassRecord) (t : Totals) → get (fold with_pass t rs) ≡ get t
  kept_by_passes [] t = refl
  kept_by_passes (r ∷ rs) t = kept_by_passes rs (with_pass t r) ∙ kept t r

objects_by_event : (t : Totals) (e : Event) → t.objects ≤ 2 ^ 64 - 1 → (with_event t e).objects ≡ capped (t.objects + cond (is_commit e) 1 0)
unfolding with_event with_passes with_pass
objects_by_event t (Did th c answer) within = elim (cases_Bool (is_placed answer)) [
  | inl placed ↦ rw placed refl
  | inr not ↦ rw not (omega arith)
]
objects_by_event t (Opened th ty first k) within = omega arith
objects_by_event t (Ended th) within = omega arith
objects_by_event t (Collected th last passes) within = kept_by_passes (λ x. x.objects) (λ x r. refl) passes _ ∙ omega arith

collections_by_event : (t : Totals) (e : Event) → t.collections ≤ 2 ^ 64 - 1 → (with_event t e).collections ≡ capped (t.collections + cond (is_collection e) 1 0)
unfolding with_event with_passes with_pass
collections_by_event t (Did th c answer) within = elim (cases_Bool (is_placed answer)) [
  | inl placed ↦ rw placed (omega arith)
  | inr not ↦ rw not (omega arith)
]
collections_by_event t (Opened th ty first k) within = omega arith
collections_by_event t (Ended th) within = omega arith
collections_by_event t (Collected th last passes) within = kept_by_passes (λ x. x.collections) (λ x r. refl) passes _

-- ---- the numbers that nothing adds to

-- the numbers of the program, and how many events there are
pub record Given (a b : Totals) : Type 0 where
  pub threads : a.threads ≡ b.threads
  pub pages : a.pages ≡ b.pages
  pub commands : a.commands ≡ b.commands
  pub events : a.events ≡ b.events

given_by_event : (t : Totals) (e : Event) → Given (with_event t e) t
unfolding with_event with_passes with_pass
given_by_event t (Did th c answer) = elim (cases_Bool (is_placed answer)) [
  | inl placed ↦ rw placed (record { threads = refl; pages = refl; commands = refl; events = refl })
  | inr not ↦ rw not (record { threads = refl; pages = refl; commands = refl; events = refl })
]
given_by_event t (Opened th ty first k) = record { threads = refl; pages = refl; commands = refl; events = refl }
given_by_event t (Ended th) = record { threads = refl; pages = refl; commands = refl; events = refl }
given_by_event t (Collected th last passes) = record {
  threads = kept_by_passes (λ x. x.threads) (λ x r. refl) passes _;
  pages = kept_by_passes (λ x. x.pages) (λ x r. refl) passes _;
  commands = kept_by_passes (λ x. x.commands) (λ x r. refl) passes _;
  events = kept_by_passes (λ x. x.events) (λ x r. refl) passes _;
}

given_by_events : (es : List Event) (t : Totals) → Given (fold with_event t es) t
given_by_events [] t = record { threads = refl; pages = refl; commands = refl; events = refl }
given_by_events (e ∷ es) t =
    let more = given_by_events es (with_event t e) in
    let one = given_by_event t e in
    record { threads = more.threads ∙ one.threads; pages = more.pages ∙ one.pages; commands = more.commands ∙ one.commands; events = more.events ∙ one.events }

-- ---- all of them

-- how many passes there are
ones : (rs : List PassRecord) → sum_by (λ (r : PassRecord). 1) rs ≡ length rs
ones [] = refl
ones (r ∷ rs) = let more = ones rs in sum_by-cons (λ (x : PassRecord). 1) r rs ∙ omega (arith, more)

pass_count : (es : List Event) → over_passes (λ r. 1) es ≡ sum_by (λ e. length (passes_of e)) es
pass_count [] = refl
pass_count (e ∷ es) =
    let more = pass_count es in
    let one = ones (passes_of e) in
    let left = sum_by-cons (λ (x : Event). sum_by (λ (r : PassRecord). 1) (passes_of x)) e es in
    let right = sum_by-cons (λ (x : Event). length (passes_of x)) e es in
    omega (arith, more, one, left, right)

module _ (get : Totals → ℕ) (own : PassRecord → ℕ) (of : OfPasses get own) (p : Program) (es : List Event) (none : get (before_events p (length es)) ≡ 0) where
  from_none : get (fold with_event (before_events p (length es)) es) ≡ capped (over_passes own es)
  from_none = let sum = added_by_events of es (before_events p (length es)) (omega (arith, none)) in omega (arith, sum, none)

pub all_events : (p : Program) (es : List Event) → fold with_event (before_events p (length es)) es ≡ totals_of p es
unfolding totals_of with_pass
all_events p es =
    let start = before_events p (length es) in
    let given = given_by_events es start in
    let objects = summed (λ t. t.objects) (λ e. cond (is_commit e) 1 0) objects_by_event es start (omega arith) in
    let collections = summed (λ t. t.collections) (λ e. cond (is_collection e) 1 0) collections_by_event es start (omega arith) in
    let passes = from_none (λ t. t.passes) (λ r. 1) (record { pass = λ t r. refl; commit = λ t n. refl; collection = λ t n. refl }) p es refl in
    let moved = from_none (λ t. t.moved) moves_in (record { pass = λ t r. refl; commit = λ t n. refl; collection = λ t n. refl }) p es refl in
    let pinned = from_none (λ t. t.pinned) (λ r. length r.pins) (record { pass = λ t r. refl; commit = λ t n. refl; collection = λ t n. refl }) p es refl in
    let stayed = from_none (λ t. t.stayed) stays_in (record { pass = λ t r. refl; commit = λ t n. refl; collection = λ t n. refl }) p es refl in
    let dead = from_none (λ t. t.dead) (λ r. r.dead) (record { pass = λ t r. refl; commit = λ t n. refl; collection = λ t n. refl }) p es refl in
    let culled = from_none (λ t. t.culled) (λ r. length r.culls) (record { pass = λ t r. refl; commit = λ t n. refl; collection = λ t n. refl }) p es refl in
    let broken = from_none (λ t. t.broken) (λ r. length r.breaks) (record { pass = λ t r. refl; commit = λ t n. refl; collection = λ t n. refl }) p es refl in
    let queued = from_none (λ t. t.queued) (λ r. length r.queued) (record { pass = λ t r. refl; commit = λ t n. refl; collection = λ t n. refl }) p es refl in
    let freed = from_none (λ t. t.freed) (λ r. length r.freed) (record { pass = λ t r. refl; commit = λ t n. refl; collection = λ t n. refl }) p es refl in
    λ i. record {
      threads = given.threads i;
      pages = given.pages i;
      commands = given.commands i;
      events = given.events i;
      objects = (objects ∙ ap capped (zero-add _)) i;
      collections = (collections ∙ ap capped (zero-add _)) i;
      passes = (passes ∙ ap capped (pass_count es)) i;
      moved = moved i;
      pinned = pinned i;
      stayed = stayed i;
      dead = dead i;
      culled = culled i;
      broken = broken i;
      queued = queued i;
      freed = freed i;
    }
