-- The policy's numbers stay small: each pass adds at most the words of all objects to one of them.
use Rattle.std.proofs.Common.{◌≡◌, ℕ, ◌+◌, ◌-◌, ◌*◌, ◌<◌, ◌≤◌, List, [], ◌∷◌, ◌++◌, length, get_or, replicate, Option, Some, None, Bool, true, false, inl, inr, refl, subst, arith}
use Rattle.std.proofs.lemmas.Bool.{cases_lt, cases_eq, cases_Bool}
use Rattle.std.proofs.lemmas.List.{get_or-set_same, get_or-set_other, get_or-replicate, length_push, get_or_past, get_or_default, set_past, length-set}
use Rattle.std.proofs.lemmas.List.Sums.{sum_by-le}
use Rattle.std.specs.Prelude.{if◌then◌else◌, slice_set, ◌==◌}
use Rattle.heap_terms.specs.declared.cells.Cell.{Cell}
use Rattle.heap_terms.specs.declared.cells.Cell.TheVariants.{Stack, Exact, Shared}
use Rattle.heap_terms.specs.declared.cells.Value.{Value}
use Rattle.heap_terms.specs.declared.cells.Value.TheVariants as values
use Rattle.heap_terms.specs.declared.commands.Command.{Command}
use Rattle.heap_terms.specs.declared.events.Event.{Event}
use Rattle.heap_terms.specs.declared.events.PassRecord.{PassRecord}
use Rattle.heap_terms.specs.declared.kinds.Kind.{Kind}
use Rattle.heap_terms.specs.declared.kinds.Kind.TheVariants as kinds
use Rattle.heap_terms.specs.declared.kinds.PageType.{PageType}
use Rattle.heap_terms.specs.declared.programs.Program.{Program}
use Rattle.heap_terms.specs.Cells.{with_cell}
use Rattle.heap_terms.specs.Collections.{after_pass_of, after_passes, closed, collected, IsPassOf, ArePasses}
use Rattle.heap_terms.specs.Generations.{allocated, has_generation, words_taken}
use Rattle.heap_terms.specs.Heap.{NamedHeap, start, thread_at, with_thread, object_at}
use Rattle.heap_terms.specs.Histories.{IsNext, advance, after, Lawful, replay}
use Rattle.heap_terms.specs.Objects.{Object, Contents, ConsOf, VectorOf, InstanceOf, ClosureOf, WordsOf, WeakTo, TableOf, payload_of, words_of_object}
use Rattle.heap_terms.specs.Outcomes.{outcome_of}
use Rattle.heap_terms.specs.Passes.{after_pass}
use Rattle.heap_terms.specs.Policy.{is_raised, cum_of, num_of, cum_after, num_after, target_of}
use Rattle.heap_terms.specs.Layout.{size_of}
use Rattle.heap_terms.specs.Regions.{Make, wish_of, initial_contents, place_for, pages_after, run_used, committed, opened, counting, triggers, with_destination, destination_of}
use Rattle.heap_terms.specs.Valid.{IsValid, IsInRange, is_gc}
use Rattle.heap_terms.specs.WellFormed.{IsWellFormed, IsSound, IsShaped}
use Rattle.pass_laws.specs.NoRegions.{HasNoRegions}
use Rattle.heap_laws.specs.Limited.{IsLimited}
use Rattle.heap_laws.specs.Numbers.{HasNumbers, most_passes, most_words_each, most_words_made}
use Rattle.heap_laws.specs.Remaining.{all_left}
use Rattle.heap_laws.proofs.Events.Appending.{kept_by_events}
use Rattle.heap_laws.proofs.Events.Causes.{by_events}
use Rattle.heap_laws.proofs.Outcomes.Changes.{by_outcome}
use Rattle.heap_laws.proofs.Programs.Limits.{limited, script_in_range}
use Rattle.heap_laws.proofs.Programs.ScriptCommands.{script_thread}
use Rattle.heap_laws.proofs.Ranges.ObjectCount.{IsCounted, after-counted, start-counted, counted_few}
use Rattle.heap_laws.proofs.WellFormed.Committed.{new_object, initial_payload, initial_shape}
use Rattle.heap_laws.proofs.Termination.EventsLeft.{all_left_falls, start_left, events_few}
use Rattle.pass_laws.proofs.AfterPages.{objects_long}
use Rattle.pass_laws.proofs.Collecting.{is_continued-low, pass_of-well_formed, closed-well_formed, closed_none}

-- an object's words
shaped_most : (k : Contents) → IsShaped k → payload_of k ≤ 65535
shaped_most (ConsOf a b) h = omega arith
shaped_most (VectorOf vs) h = h
shaped_most (InstanceOf vs) h = h
shaped_most (ClosureOf vs) h = h
shaped_most (WordsOf ws) h = h.0
shaped_most (WeakTo v) h = omega arith
shaped_most (TableOf w b pairs) h = omega arith

words_most : (k : Contents) (place g : ℕ) → IsShaped k → words_of_object (record { generation = g; place = place; contents = k }) ≤ most_words_each
words_most (ConsOf a b) place g h = omega arith
words_most (VectorOf vs) place g h = omega arith
words_most (InstanceOf vs) place g h = omega arith
words_most (ClosureOf vs) place g h = omega arith
words_most (WordsOf ws) place g h = (let l = h.0 in omega arith)
words_most (WeakTo v) place g h = omega arith
words_most (TableOf w b pairs) place g h = omega arith

-- a test keeps what is below a bound
by_test : (b : Bool) (n : ℕ) {bound : ℕ} → n ≤ bound → (if b then n else 0) ≤ bound
by_test true n l = l
by_test false n l = omega arith

-- the words of a generation
pub allocated_most : (a : NamedHeap) (g : ℕ) → IsSound a → allocated a g ≤ length a.objects * most_words_each
allocated_most a g sound = sum_by-le f most_words_each a.objects (λ name d l. each name d l)
  where
    f : Option Object → ℕ
    f o = if has_generation g o then words_taken o else 0

    of_object : (o : Option Object) (name : ℕ) → object_at a.objects name ≡ o → f o ≤ most_words_each
    of_object None name e = by_test (has_generation g None) 0 (omega arith)
    of_object (Some o) name e = by_test (has_generation g (Some o)) (words_of_object o) (words_most o.contents o.place o.generation (sound.objects name o e).shape)

    each : (name : ℕ) (d : Option Object) → name < length a.objects → f (get_or a.objects name d) ≤ most_words_each
    each name d l = subst (λ (o : Option Object). f o ≤ most_words_each) (get_or_default a.objects name None d l) (of_object (object_at a.objects name) name refl)

-- the words of all objects, where there are at most 20,000
pub words_few : (a : NamedHeap) (g : ℕ) → IsSound a → length a.objects ≤ 20000 → allocated a g ≤ most_words_made
words_few a g sound few = let most = allocated_most a g sound in omega arith

-- what the policy keeps, after so many passes, and what was counted of the words of so many objects
pub record HasSums (a : NamedHeap) (passes : ℕ) : Type 0 where
  pub cum : (g : ℕ) → cum_of a g ≤ passes * most_words_made
  pub num : (g : ℕ) → num_of a g ≤ passes
  pub counted : a.counted ≤ length a.objects * most_words_each

sums_later : (a : NamedHeap) (n m : ℕ) → n ≤ m → HasSums a n → HasSums a m
sums_later a n m l h = record {
  cum = λ g. let was = h.cum g in omega arith;
  num = λ g. let was = h.num g in omega arith;
  counted = h.counted;
}

-- a heap with the same sums
record SameSums (a b : NamedHeap) : Type 0 where
  pub cum : b.cum ≡ a.cum
  pub num : b.num ≡ a.num
  pub counted : b.counted ≡ a.counted
  pub objects : length b.objects ≡ length a.objects

sums_same : (a b : NamedHeap) (n : ℕ) → SameSums a b → HasSums a n → HasSums b n
sums_same a b n same h = record {
  cum = λ g. rw same.cum (h.cum g);
  num = λ g. rw same.num (h.num g);
  counted = rw (same.counted, same.objects) h.counted;
}

unchanged : (a b : NamedHeap) → b.cum ≡ a.cum → b.num ≡ a.num → b.counted ≡ a.counted → length b.objects ≡ length a.objects → SameSums a b
unchanged a b cum num counted objects = record { cum = cum; num = num; counted = counted; objects = objects }

-- one place of a list of numbers is set
set_most : (xs : List ℕ) (i v bound : ℕ) → v ≤ bound → ((g : ℕ) → get_or xs g 0 ≤ bound) → (g : ℕ) → get_or (slice_set xs i v) g 0 ≤ bound
set_most xs i v bound low all g = elim (cases_eq g i) [
  | inl same ↦ elim (cases_lt i (length xs)) [
    | inl l ↦ rw (same, get_or-set_same xs i v 0 l) low
    | inr l ↦ rw (set_past xs i v l) (all g)
  ]
  | inr other ↦ rw (get_or-set_other xs i g v 0 other) (all g)
]

-- one pass more
pass-sums : (a : NamedHeap) (last g n : ℕ) (r : PassRecord) → allocated a (g + 1) ≤ most_words_made → ((i : ℕ) → cum_of a i ≤ n * most_words_made) →
    ((i : ℕ) → num_of a i ≤ n) →
    ((i : ℕ) → cum_of (after_pass_of a last g r) i ≤ (n + 1) * most_words_made) × ((i : ℕ) → num_of (after_pass_of a last g r) i ≤ n + 1)
pass-sums a last g n r few cum num = (cum_most (is_raised a last g), num_most (is_raised a last g))
  where
    cum_most : (raised : Bool) (i : ℕ) → get_or (cum_after a g raised) i 0 ≤ (n + 1) * most_words_made
    cum_most true = set_most _ g 0 _ (omega arith) (set_most a.cum (g + 1) _ _ (let was = cum (g + 1) in let most = few in omega arith) (λ i. let was = cum i in omega arith))
    cum_most false = set_most a.cum g 0 _ (omega arith) (λ i. let was = cum i in omega arith)

    num_most : (raised : Bool) (i : ℕ) → get_or (num_after a g raised) i 0 ≤ n + 1
    num_most true = set_most a.num g 0 _ (omega arith) (λ i. let was = num i in omega arith)
    num_most false = set_most a.num g _ _ (let was = num g in omega arith) (λ i. let was = num i in omega arith)

one_pass : (a : NamedHeap) (last g n : ℕ) (r : PassRecord) → IsSound a → length a.objects ≤ 20000 → IsPassOf a last g r → HasSums a n →
    HasSums (after_pass_of a last g r) (n + 1)
unfolding after_pass
one_pass a last g n r sound small pass h =
    let sums = pass-sums a last g n r (words_few a (g + 1) sound small) h.cum h.num in
    record {
      cum = sums.0;
      num = sums.1;
      counted = (let long = objects_long a g (target_of g (is_raised a last g)) r sound pass in let was = h.counted in omega arith);
    }

-- the passes of a collection, of which there are at most six
passes-sums : (p : Program) (a : NamedHeap) (last g n : ℕ) (records : List PassRecord) → g ≤ 5 → IsWellFormed p a → HasNoRegions a → length a.objects ≤ 20000 →
    ArePasses a last g records → HasSums a n → HasSums (after_passes a last g records) (n + (6 - g))
passes-sums p a last g n [] low w none few are h = absurd are
passes-sums p a last g n (r ∷ []) low w none few are h =
    sums_later (after_pass_of a last g r) (n + 1) (n + (6 - g)) (omega arith) (one_pass a last g n r w.sound few are.0 h)
passes-sums p a last g n (r ∷ s ∷ rest) low w none few are h =
    let next = pass_of-well_formed p a last g r low w none are.0 in
    let more = is_continued-low (after_pass_of a last g r) last g (is_raised a last g) are.1 in
    let long : length (after_pass_of a last g r).objects ≡ length a.objects = objects_long a g (target_of g (is_raised a last g)) r w.sound are.0 in
    let one = one_pass a last g n r w.sound few are.0 h in
    sums_later (after_passes a last g (r ∷ s ∷ rest)) (n + 1 + (6 - (g + 1))) (n + (6 - g)) (omega arith)
    (passes-sums p (after_pass_of a last g r) last (g + 1) (n + 1) (s ∷ rest) (omega arith) next.0 next.1 (omega arith) are.2 one)

collection-sums : (p : Program) (a : NamedHeap) (t last n : ℕ) (records : List PassRecord) → IsWellFormed p a → length a.objects ≤ 20000 →
    ArePasses (closed a) last 0 records → HasSums a n → HasSums (collected a t last records) (n + 6)
unfolding collected
collection-sums p a t last n records w few are h =
    let passes = passes-sums p (closed a) last 0 n records (omega arith) (closed-well_formed p a w) (closed_none a) few are
    (sums_same a (closed a) n (unchanged _ _ refl refl refl refl) h) in
    sums_same (after_passes (closed a) last 0 records) (collected a t last records) (n + 6) (unchanged _ _ refl refl refl refl) passes

by_cell : (a : NamedHeap) (t : ℕ) (d : Cell) (v : Value) → SameSums a (with_cell a t d v)
by_cell a t (Stack i) v = unchanged _ _ refl refl refl refl
by_cell a t (Exact i) v = unchanged _ _ refl refl refl refl
by_cell a t (Shared i) v = unchanged _ _ refl refl refl refl

-- no other event changes them
outcome-sums : (p : Program) (a : NamedHeap) (t : ℕ) (c : Command) → IsLimited p → IsWellFormed p a → t < length p.threads → (thread_at a t).ended ≡ false → IsInRange c →
    SameSums a (outcome_of a t c).heap
outcome-sums p a t c limits w l alive in_range = by_outcome p a t (SameSums a) w limits.pages_most l alive (is_gc c) (unchanged _ _ refl refl refl refl)
    (λ d v living. by_cell a t d v)
    (λ th r. unchanged _ _ refl refl refl refl)
    (λ name o q e same living shape. unchanged _ _ refl refl refl (length-set a.objects name (Some q)))
    (λ fs all. unchanged _ _ refl refl refl refl)
    (unchanged _ _ refl refl refl refl)
    c refl in_range

payload_most : (a : NamedHeap) (t : ℕ) (c : Command) (kind : Kind) (n seed : ℕ) → wish_of c ≡ Make kind n seed → IsInRange c → size_of kind n ≤ most_words_each
payload_most a t c kind n seed wish in_range =
    size_most kind (subst (λ (x : ℕ). x ≤ 65535) (initial_payload a t c kind n seed wish) (shaped_most (initial_contents a t c) (initial_shape a t c in_range)))
  where
    size_most : (kind : Kind) → n ≤ 65535 → size_of kind n ≤ most_words_each
    size_most kinds.Cons l = omega arith
    size_most kinds.Vector l = omega arith
    size_most kinds.Instance l = omega arith
    size_most kinds.Closure l = omega arith
    size_most kinds.Words l = omega arith
    size_most kinds.Weak l = omega arith
    size_most kinds.Table l = omega arith

-- the words of a commit are counted, or the count begins again
counting-sums : (p : Program) (b : NamedHeap) (t size n : ℕ) → (b.counted + size ≤ length b.objects * most_words_each) → ((g : ℕ) → cum_of b g ≤ n * most_words_made) →
    ((g : ℕ) → num_of b g ≤ n) → HasSums (counting p b t size) n
counting-sums p b t size n few cum num = elim (cases_Bool (triggers p b size)) [
  | inl reached ↦ rw reached (record { cum = cum; num = num; counted = omega arith })
  | inr below ↦ rw below (record { cum = cum; num = num; counted = by_auto (p.auto == 0) })
]
  where
    by_auto : (off : Bool) → (if off then b.counted else b.counted + size) ≤ length b.objects * most_words_each
    by_auto true = omega arith
    by_auto false = few

committed-sums : (p : Program) (a : NamedHeap) (t : ℕ) (c : Command) (kind : Kind) (m seed n : ℕ) → wish_of c ≡ Make kind m seed → IsInRange c → HasSums a n →
    HasSums (committed p a t c kind m) n
unfolding committed
committed-sums p a t c kind m seed n wish in_range h =
    let size = size_of kind m in
    let most = payload_most a t c kind m seed wish in_range in
    let placed : NamedHeap = record (with_thread a t (run_used (thread_at a t) size))
    { objects = a.objects ++ Some (new_object a t c (place_for a t kind size)) ∷ []; pages = pages_after a t kind size } in
    let v = values.Ref (length a.objects) in
    let b = with_destination placed t (destination_of c) v in
    let same = by_destination placed t (destination_of c) v in
    let long = length_push a.objects (Some (new_object a t c (place_for a t kind size))) in
    let was = h.counted in
    let counted = same.counted in
    let objects = same.objects in
    counting-sums p b t size n (omega arith) (λ g. rw same.cum (h.cum g)) (λ g. rw same.num (h.num g))
  where
    by_destination : (b : NamedHeap) (t : ℕ) (o : Option Cell) (v : Value) → SameSums b (with_destination b t o v)
    by_destination b t None v = unchanged b b refl refl refl refl
    by_destination b t (Some d) v = by_cell b t d v

opened-sums : (a : NamedHeap) (t : ℕ) (ty : PageType) (first k : ℕ) → SameSums a (opened a t ty first k)
unfolding opened
opened-sums a t ty first k = unchanged _ _ refl refl refl refl

-- so each event adds at most six passes
event-sums : (p : Program) (a : NamedHeap) (e : Event) (n : ℕ) → IsLimited p → IsWellFormed p a → length a.objects ≤ 20000 → IsNext p a e → HasSums a n → HasSums (after p a e) (n + 6)
event-sums p a e n limits w few next h = by_events p a (λ e b. HasSums b (n + 6))
    (λ t c answer d. kept (outcome_of a t c).heap (outcome-sums p a t c limits w (script_thread p t (thread_at a t).done c d.command) d.alive
    (script_in_range p t (thread_at a t).done c limits d.command)) t)
    (λ t c answer d. kept a (unchanged _ _ refl refl refl refl) t)
    (λ t c answer kind m seed d. sums_later (advance (committed p a t c kind m) t) n (n + 6) (omega arith)
    (sums_same (committed p a t c kind m) _ n (unchanged _ _ refl refl refl refl)
    (committed-sums p a t c kind m seed n d.wish (script_in_range p t (thread_at a t).done c limits d.command) h)))
    (λ t ty first k d. later (opened a t ty first k) (opened-sums a t ty first k))
    (λ t last passes d. collection-sums p a t last n passes w few d.collection.passes h)
    (λ t d. later _ (unchanged _ _ refl refl refl refl))
    e next
  where
    later : (b : NamedHeap) → SameSums a b → HasSums b (n + 6)
    later b same = sums_later b n (n + 6) (omega arith) (sums_same a b n same h)

    kept : (b : NamedHeap) → SameSums a b → (t : ℕ) → HasSums (advance b t) (n + 6)
    kept b same t = later (advance b t) (unchanged a (advance b t) same.cum same.num same.counted same.objects)

-- in every heap that a history leaves
pub record HasFewSums (p : Program) (a : NamedHeap) : Type 0 where
  pub counted : IsCounted p a
  pub passes : ℕ
  pub sums : HasSums a passes
  pub left : passes + 6 * all_left p a ≤ most_passes

pub start-few : (p : Program) → IsValid p → HasFewSums p (start p)
unfolding start
start-few p valid = record {
  counted = start-counted p;
  passes = 0;
  sums = record { cum = zeros; num = zeros; counted = omega arith };
  left = (let left = start_left p in let few = events_few p valid in omega arith);
}
  where
    zeros : (g : ℕ) → get_or {A = ℕ} (replicate 7 0) g 0 ≤ 0
    zeros g = elim (cases_lt g 7) [
      | inl l ↦ rw (get_or-replicate {A = ℕ} 7 g 0 0 l) (omega arith)
      | inr l ↦ rw (get_or_past {X = ℕ} (replicate 7 0) g 0 l) (omega arith)
    ]

pub after-few : (p : Program) → IsValid p → (a : NamedHeap) (e : Event) → IsNext p a e → HasFewSums p a → HasFewSums p (after p a e)
after-few p valid a e next h =
    let w = h.counted.formed in
    let limits = limited p valid in
    let falls = all_left_falls p a e limits w next in
    let left = h.left in
    record {
      counted = after-counted p limits a e next h.counted;
      passes = h.passes + 6;
      sums = event-sums p a e h.passes limits w (counted_few p a valid h.counted) next h.sums;
      left = omega arith;
    }

pub numbers-few : (p : Program) (a : NamedHeap) → IsValid p → HasFewSums p a → HasNumbers a most_passes
numbers-few p a valid h =
    let left = h.left in
    let sums = sums_later a h.passes most_passes (omega arith) h.sums in
    record {
      words = λ g. words_few a g h.counted.formed.sound (counted_few p a valid h.counted);
      cum = sums.cum;
      num = sums.num;
      counted = (let few = counted_few p a valid h.counted in let counted = sums.counted in omega arith);
    }

pub replay-numbers : (p : Program) (h : List Event) → IsValid p → Lawful p h → HasNumbers (replay p h) most_passes
replay-numbers p h valid lawful = numbers-few p (replay p h) valid (kept_by_events p (HasFewSums p) (after-few p valid) (start p) h (start-few p valid) lawful)

-- and after each pass of a collection
pub pass-numbers : (p : Program) (a : NamedHeap) (last g passes : ℕ) (r : PassRecord) → g ≤ 5 → IsWellFormed p a → HasNoRegions a → length a.objects ≤ 20000 →
    IsPassOf a last g r → HasNumbers a passes → HasNumbers (after_pass_of a last g r) (passes + 1)
unfolding after_pass
pass-numbers p a last g passes r low w none few pass h =
    let next = pass_of-well_formed p a last g r low w none pass in
    let long : length (after_pass_of a last g r).objects ≡ length a.objects = objects_long a g (target_of g (is_raised a last g)) r w.sound pass in
    let sums = pass-sums a last g passes r (h.words (g + 1)) h.cum h.num in
    record {
      words = λ i. words_few (after_pass_of a last g r) i next.0.sound (omega arith);
      cum = sums.0;
      num = sums.1;
      counted = h.counted;
    }
