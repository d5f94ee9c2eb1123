-- Each event adds at most one pair to the tables of a heap, and a pass adds none.
use Rattle.std.proofs.Common.{◌≡◌, ℕ, zero, suc, ◌+◌, ◌<◌, ◌≤◌, List, [], ◌∷◌, ◌++◌, length, map, get_or, set, refl, sym, subst, ap, arith, Option, Some, None, Bool, true, false, inl, inr}
use Rattle.std.proofs.lemmas.Bool.{cases_Bool, cases_lt}
use Rattle.std.proofs.lemmas.List.{set_past}
use Rattle.std.proofs.lemmas.List.Filters.{length-filter_both}
use Rattle.std.proofs.lemmas.List.Sums.{sum_by-cons, sum_by-set, sum_by_push}
use Rattle.std.proofs.lemmas.List.FromFn.{length-map-range_with_len, get_or-map-range_with_len}
use Rattle.std.proofs.lemmas.Option.{same_Some}
use Rattle.std.specs.Prelude.{if◌then◌else◌, option_and_then, option_map, ◌==◌, ◌||◌, filter, nat_lt, not}
use Rattle.std.specs.List.{range_with_len, sum_by}
use Rattle.heap_terms.specs.declared.answers.Answer.TheVariants as answers
use Rattle.heap_terms.specs.declared.answers.Refusal.TheVariants.{OutOfRange}
use Rattle.heap_terms.specs.declared.cells.Cell.{Cell}
use Rattle.heap_terms.specs.declared.cells.Cell.TheVariants.{Stack, Exact, Shared}
use Rattle.heap_terms.specs.declared.cells.Value.{Value}
use Rattle.heap_terms.specs.declared.cells.Value.TheVariants as values
use Rattle.heap_terms.specs.declared.commands.Command.{Command}
use Rattle.heap_terms.specs.declared.commands.Command.TheVariants as commands
use Rattle.heap_terms.specs.declared.events.Event.{Event}
use Rattle.heap_terms.specs.declared.events.Event.TheVariants.{Did, Opened, Collected, Ended}
use Rattle.heap_terms.specs.declared.events.PassRecord.{PassRecord}
use Rattle.heap_terms.specs.declared.kinds.Kind.{Kind}
use Rattle.heap_terms.specs.declared.pages.Next.{Next}
use Rattle.heap_terms.specs.declared.pages.Next.TheVariants as nexts
use Rattle.heap_terms.specs.declared.programs.Program.{Program}
use Rattle.heap_terms.specs.Cells.{with_cell, cell_value}
use Rattle.heap_terms.specs.Collections.{closed, after_pass_of, after_passes, collected}
use Rattle.heap_terms.specs.Heap.{NamedHeap, start, thread_at, with_thread, object_at, zero_value}
use Rattle.heap_terms.specs.Histories.{after, after_command, next, replay, replay_from}
use Rattle.heap_terms.specs.Objects.{Object, Contents, ConsOf, VectorOf, InstanceOf, ClosureOf, WordsOf, WeakTo, TableOf}
use Rattle.heap_terms.specs.Outcome.{Outcome, answering, done, refused, needing, indexing}
use Rattle.heap_terms.specs.Outcomes.{outcome_of}
use Rattle.heap_terms.specs.Outcomes.RawCommands.{taking}
use Rattle.heap_terms.specs.Outcomes.TableCommands.{found_outcome}
use Rattle.heap_terms.specs.Outcomes.WeakCommands.{weak_outcome}
use Rattle.heap_terms.specs.Pairs.{has_key, is_pair_of, value_at, with_pair, without_key}
use Rattle.heap_terms.specs.Passes.{after_pass, object_after, remains}
use Rattle.heap_terms.specs.Referents.{Table, changed_at, fields_at, name_in, pointee_at, raws_at, refilled, table_at, table_of, with_field, with_field_at, with_pairs, with_raws}
use Rattle.heap_terms.specs.RawCells.{raw_value}
use Rattle.heap_terms.specs.Regions.{committed, counting, triggers, opened, with_destination, destination_of, initial_contents, place_for, run_used, pages_after}
use Rattle.heap_terms.specs.Layout.{size_of}
use Rattle.heap_terms.specs.Survival.{is_kept, surviving}
use Rattle.pair_laws.specs.Counts.{pair_count, pairs_in, pairs_of}

-- at most n pairs
abbrev Few : ℕ → NamedHeap → Type 0
Few n a = pair_count a ≤ n

later : (n : ℕ) (a : NamedHeap) → Few n a → Few (n + 1) a
later n a h = omega (arith, h)

few_cell : (n : ℕ) (a : NamedHeap) (t : ℕ) (d : Cell) (v : Value) → Few n a → Few (n + 1) (with_cell a t d v)
few_cell n a t (Stack i) v h = later n a h
few_cell n a t (Exact i) v h = later n a h
few_cell n a t (Shared i) v h = later n a h

-- ---- one object holds something else

-- where the contents change, so many pairs more
set_few : (n more : ℕ) (objects : List (Option Object)) (name : ℕ) (q : Option Object) → sum_by pairs_in objects ≤ n → pairs_in q ≤ pairs_in (get_or objects name None) + more →
    sum_by pairs_in (set objects name q) ≤ n + more
set_few n more objects name q h l = elim (cases_lt name (length objects)) [
  | inl inside ↦ (let e = sum_by-set pairs_in objects name q None inside in omega (arith, e, h, l))
  | inr past ↦ (let e = ap (sum_by pairs_in) (set_past objects name q past) in omega (arith, e, h))
]

changed_few : (n more : ℕ) (a : NamedHeap) (v : Value) (change : Contents → Contents) → Few n a →
    ((name : ℕ) (o : Object) → v ≡ values.Ref name → object_at a.objects name ≡ Some o → pairs_of (change o.contents) ≤ pairs_of o.contents + more) →
    Few (n + more) (record a { objects = changed_at a.objects v change })
changed_few n more a (values.Fix k) change h each = omega (arith, h)
changed_few n more a values.Nil change h each = omega (arith, h)
changed_few n more a values.Unbound change h each = omega (arith, h)
changed_few n more a (values.Ref name) change h each = set_few n more a.objects name (refilled (object_at a.objects name) change) h (go (object_at a.objects name) refl)
  where
    go : (q : Option Object) → object_at a.objects name ≡ q → pairs_in (refilled q change) ≤ pairs_in q + more
    go None e = omega arith
    go (Some o) e = each name o refl e

field_same : (k : Contents) (i : ℕ) (v : Value) → pairs_of (with_field k i v) ≤ pairs_of k + 1
field_same (ConsOf a b) zero v = omega arith
field_same (ConsOf a b) (suc zero) v = omega arith
field_same (ConsOf a b) (suc (suc i)) v = omega arith
field_same (VectorOf vs) i v = omega arith
field_same (InstanceOf vs) i v = omega arith
field_same (ClosureOf vs) i v = omega arith
field_same (WordsOf ws) i v = omega arith
field_same (WeakTo w) i v = omega arith
field_same (TableOf w b pairs) i v = omega arith

raws_same : (k : Contents) (ws : List ℕ) → pairs_of (with_raws k ws) ≤ pairs_of k + 1
raws_same (ConsOf a b) ws = omega arith
raws_same (VectorOf vs) ws = omega arith
raws_same (InstanceOf vs) ws = omega arith
raws_same (ClosureOf vs) ws = omega arith
raws_same (WordsOf old) ws = omega arith
raws_same (WeakTo w) ws = omega arith
raws_same (TableOf w b pairs) ws = omega arith

pub filter_few : {X : Type 0} (p : X → Bool) (xs : List X) → length (filter p xs) ≤ length xs
filter_few p xs = (let both = length-filter_both p (λ x. not (p x)) (λ x. refl) xs in omega (arith, both))

with_pair_few : (pairs : List (Value × Value)) (k v : Value) → length (with_pair pairs k v) ≤ length pairs + 1
with_pair_few [] k v = omega arith
with_pair_few (pair ∷ rest) k v = elim (cases_Bool (is_pair_of k pair)) [
  | inl here ↦ rw here (omega arith)
  | inr gone ↦ rw gone (let more = with_pair_few rest k v in omega (arith, more))
]

-- a table gets other pairs, at most one more than it had
table_few : (k : Contents) (table : Table) (pairs : List (Value × Value)) → table_of k ≡ Some table → length pairs ≤ length table.pairs + 1 → pairs_of (with_pairs k pairs) ≤ pairs_of k + 1
table_few (ConsOf a b) table pairs e few = cc
table_few (VectorOf vs) table pairs e few = cc
table_few (InstanceOf vs) table pairs e few = cc
table_few (ClosureOf vs) table pairs e few = cc
table_few (WordsOf ws) table pairs e few = cc
table_few (WeakTo v) table pairs e few = cc
table_few (TableOf w b old) table pairs e few = (let same : length old ≡ length table.pairs = ap (λ (t : Table). length t.pairs) (same_Some _ table e) in omega (arith, same, few))

pairs_changed : (objects : List (Option Object)) (v : Value) (table : Table) (pairs : List (Value × Value)) → table_at objects v ≡ Some table → length pairs ≤ length table.pairs + 1 →
    (name : ℕ) (o : Object) → v ≡ values.Ref name → object_at objects name ≡ Some o → pairs_of (with_pairs o.contents pairs) ≤ pairs_of o.contents + 1
pairs_changed objects v table pairs at few name o is there =
    let here : table_at objects (values.Ref name) ≡ Some table = subst (λ (x : Value). table_at objects x ≡ Some table) is at in
    table_few o.contents table pairs (go (object_at objects name) there here) few
  where
    go : (q : Option Object) → q ≡ Some o → option_and_then table_of (option_map (λ (x : Object). x.contents) q) ≡ Some table → table_of o.contents ≡ Some table
    go None e f = cc
    go (Some x) e f = subst (λ (y : Object). table_of y.contents ≡ Some table) (same_Some x o e) f

-- ---- commands that allocate nothing

needing_few : {A : Type 0} (n : ℕ) (o : Option A) (a : NamedHeap) (go : A → Outcome) → Few n a → ((x : A) → o ≡ Some x → Few (n + 1) (go x).heap) → Few (n + 1) (needing o a go).heap
needing_few n None a go h more = later n a h
needing_few n (Some x) a go h more = more x refl

indexing_few : {A : Type 0} (n : ℕ) (xs : List A) (i : ℕ) (d : A) (a : NamedHeap) (go : A → Outcome) → Few n a → ((x : A) → Few (n + 1) (go x).heap) → Few (n + 1) (indexing xs i d a go).heap
indexing_few n xs i d a go h more = by_test (nat_lt i (length xs))
  where
    by_test : (b : Bool) → Few (n + 1) (if b then go (get_or xs i d) else refused OutOfRange a).heap
    by_test true = more (get_or xs i d)
    by_test false = later n a h

by_test : (n : ℕ) (b : Bool) (x y : Outcome) → Few n x.heap → Few n y.heap → Few n (if b then x else y).heap
by_test n true x y one two = one
by_test n false x y one two = two

found_few : (n : ℕ) (a : NamedHeap) (t : ℕ) (d : Cell) (q : Option Value) → Few n a → Few (n + 1) (found_outcome a t d q).heap
found_few n a t d None h = few_cell n a t d values.Nil h
found_few n a t d (Some v) h = few_cell n a t d v h

weak_few : (n : ℕ) (a : NamedHeap) (t : ℕ) (d : Cell) (v : Value) → Few n a → Few (n + 1) (weak_outcome a t d v).heap
weak_few n a t d (values.Fix k) h = few_cell n a t d (values.Fix k) h
weak_few n a t d values.Nil h = few_cell n a t d values.Nil h
weak_few n a t d values.Unbound h = few_cell n a t d values.Nil h
weak_few n a t d (values.Ref name) h = few_cell n a t d (values.Ref name) h

module _ (n : ℕ) (a : NamedHeap) (t : ℕ) (h : Few n a) where
  few_outcome : (c : Command) → Few (n + 1) (outcome_of a t c).heap
  unfolding outcome_of
  few_outcome (commands.Fix d k) = few_cell n a t d (values.Fix k) h
  few_outcome (commands.MakeNil d) = few_cell n a t d values.Nil h
  few_outcome (commands.Move d c) = few_cell n a t d (cell_value a t c) h
  few_outcome (commands.NewCons d x y) = later n a h
  few_outcome (commands.NewVector d k) = later n a h
  few_outcome (commands.NewInstance d k) = later n a h
  few_outcome (commands.NewClosure d k) = later n a h
  few_outcome (commands.NewWords d k w) = later n a h
  few_outcome (commands.NewWeak d c) = later n a h
  few_outcome (commands.NewTable d w b) = later n a h
  few_outcome (commands.Get d c i) =
      needing_few n (fields_at a.objects (cell_value a t c)) a _ h (λ vs e.
      indexing_few n vs i zero_value a (λ v. answering (answers.Val v) (with_cell a t d v)) h (λ v. few_cell n a t d v h))
  few_outcome (commands.Put c i b) =
      needing_few n (fields_at a.objects (cell_value a t c)) a _ h (λ vs e.
      indexing_few n vs i zero_value a (λ _. done (record a { objects = with_field_at a.objects (cell_value a t c) i (cell_value a t b) })) h (λ v.
      changed_few n 1 a (cell_value a t c) (λ k. with_field k i (cell_value a t b)) h (λ name o is there. field_same o.contents i (cell_value a t b))))
  few_outcome (commands.RawGet x c i) =
      needing_few n (raws_at a.objects (cell_value a t c)) a _ h (λ ws e. indexing_few n ws i 0 a (λ word. taking a t x word) h (λ word. later n a h))
  few_outcome (commands.RawPut c i x) =
      needing_few n (raws_at a.objects (cell_value a t c)) a _ h (λ ws e.
      indexing_few n ws i 0 a (λ _. done (record a { objects = changed_at a.objects (cell_value a t c) (λ k. with_raws k (set ws i (raw_value a t x))) })) h (λ word.
      changed_few n 1 a (cell_value a t c) (λ k. with_raws k (set ws i (raw_value a t x))) h (λ name o is there. raws_same o.contents (set ws i (raw_value a t x)))))
  few_outcome (commands.Same x y) = later n a h
  few_outcome (commands.Show c) = later n a h
  few_outcome (commands.Addr x c) = later n a h
  few_outcome (commands.SetRaw x word) = later n a h
  few_outcome (commands.AddRaw x k) = later n a h
  few_outcome (commands.Pin c) = by_test (n + 1) (nat_lt (length (thread_at a t).pins) 32) _ _ (later n a h) (later n a h)
  few_outcome commands.Unpin = by_test (n + 1) (length (thread_at a t).pins == 0) _ _ (later n a h) (later n a h)
  few_outcome (commands.WeakVal d c) = needing_few n (pointee_at a.objects (cell_value a t c)) a _ h (λ v e. weak_few n a t d v h)
  few_outcome (commands.TablePut c k v) =
      needing_few n (table_at a.objects (cell_value a t c)) a _ h (λ table e.
      by_test (n + 1) (has_key table.pairs (cell_value a t k) || nat_lt (length table.pairs) table.capacity) _ _
      (changed_few n 1 a (cell_value a t c) (λ x. with_pairs x (with_pair table.pairs (cell_value a t k) (cell_value a t v))) h
      (pairs_changed a.objects (cell_value a t c) table (with_pair table.pairs (cell_value a t k) (cell_value a t v)) e (with_pair_few table.pairs (cell_value a t k) (cell_value a t v))))
      (later n a h))
  few_outcome (commands.TableGet d c k) = needing_few n (table_at a.objects (cell_value a t c)) a _ h (λ table e. found_few n a t d (value_at table.pairs (cell_value a t k)) h)
  few_outcome (commands.TableRem c k) =
      needing_few n (table_at a.objects (cell_value a t c)) a _ h (λ table e.
      by_test (n + 1) (has_key table.pairs (cell_value a t k)) _ _
      (changed_few n 1 a (cell_value a t c) (λ x. with_pairs x (without_key table.pairs (cell_value a t k))) h
      (pairs_changed a.objects (cell_value a t c) table (without_key table.pairs (cell_value a t k)) e
      (let less = filter_few (λ pair. not (is_pair_of (cell_value a t k) pair)) table.pairs in omega (arith, less))))
      (later n a h))
  few_outcome (commands.TableCount c) = needing_few n (table_at a.objects (cell_value a t c)) a _ h (λ table e. later n a h)
  few_outcome (commands.Finalize c id) = needing_few n (name_in (cell_value a t c)) a _ h (λ name e. later n a h)
  few_outcome (commands.Cancel c) = needing_few n (name_in (cell_value a t c)) a _ h (λ name e. later n a h)
  few_outcome commands.RunFinalizers = by_test (n + 1) (length a.queue == 0) _ _ (later n a h) (later n a h)
  few_outcome (commands.Collect g) = later n a h
  few_outcome commands.Inhibit = later n a h
  few_outcome commands.Allow = by_test (n + 1) ((thread_at a t).inhibits == 0) _ _ (later n a h) (later n a h)
  few_outcome (commands.ShowPage page) = by_test (n + 1) (nat_lt page (length a.pages)) _ _ (later n a h) (later n a h)
  few_outcome (commands.Stat g) = later n a h

-- ---- commits

initial_none : (a : NamedHeap) (t : ℕ) (c : Command) → pairs_of (initial_contents a t c) ≡ 0
initial_none a t (commands.NewTable d w b) = refl
initial_none a t _ = refl

destination_few : (n : ℕ) (b : NamedHeap) (t : ℕ) (o : Option Cell) (v : Value) → Few n b → Few n (with_destination b t o v)
destination_few n b t None v h = h
destination_few n b t (Some (Stack i)) v h = h
destination_few n b t (Some (Exact i)) v h = h
destination_few n b t (Some (Shared i)) v h = h

counting_few : (n : ℕ) (p : Program) (b : NamedHeap) (t size : ℕ) → Few n b → Few n (counting p b t size)
counting_few n p b t size h = elim (cases_Bool (triggers p b size)) [
  | inl reached ↦ rw reached h
  | inr below ↦ rw below h
]

few_committed : (n : ℕ) (p : Program) (a : NamedHeap) (t : ℕ) (c : Command) (kind : Kind) (k : ℕ) → Few n a → Few (n + 1) (committed p a t c kind k)
unfolding committed
few_committed n p a t c kind k h =
    let size = size_of kind k in
    let object : Object = record { generation = 0; place = place_for a t kind size; contents = initial_contents a t c } in
    let placed : NamedHeap = record (with_thread a t (run_used (thread_at a t) size)) { objects = a.objects ++ Some object ∷ []; pages = pages_after a t kind size } in
    let one : Few (n + 1) placed = (let e = sum_by_push pairs_in a.objects (Some object) in let none = initial_none a t c in omega (arith, e, none, h)) in
    counting_few (n + 1) p (with_destination placed t (destination_of c) (values.Ref (length a.objects))) t size
    (destination_few (n + 1) placed t (destination_of c) (values.Ref (length a.objects)) one)

-- ---- passes

surviving_few : (live : ℕ → Bool) (k : Contents) → pairs_of (surviving live k) ≤ pairs_of k
surviving_few live (ConsOf a b) = omega arith
surviving_few live (VectorOf vs) = omega arith
surviving_few live (InstanceOf vs) = omega arith
surviving_few live (ClosureOf vs) = omega arith
surviving_few live (WordsOf ws) = omega arith
surviving_few live (WeakTo w) = omega arith
surviving_few live (TableOf w b pairs) = filter_few (is_kept live w) pairs

object_few : (a : NamedHeap) (r : PassRecord) (name : ℕ) (q : Option Object) → pairs_in (object_after a r name q) ≤ pairs_in q
object_few a r name None = omega arith
object_few a r name (Some x) = elim (cases_Bool (remains a r name)) [
  | inl live ↦ rw live (surviving_few (remains a r) x.contents)
  | inr dead ↦ rw dead (omega arith)
]

-- place by place fewer
all_fewer : (xs ys : List (Option Object)) → length ys ≡ length xs → ((k : ℕ) → k < length xs → pairs_in (get_or ys k None) ≤ pairs_in (get_or xs k None)) →
    sum_by pairs_in ys ≤ sum_by pairs_in xs
all_fewer [] [] long each = omega arith
all_fewer [] (y ∷ ys) long each = absurd (omega (arith, long))
all_fewer (x ∷ xs) [] long each = absurd (omega (arith, long))
all_fewer (x ∷ xs) (y ∷ ys) long each =
    let rest = all_fewer xs ys (omega (arith, long)) (λ k l. each (suc k) (omega (arith, l))) in
    let one = each 0 (omega arith) in
    omega (arith, rest, one, sum_by-cons pairs_in x xs, sum_by-cons pairs_in y ys)

pub pass_few : (a : NamedHeap) (r : PassRecord) → pair_count (after_pass a r) ≤ pair_count a
unfolding after_pass
pass_few a r =
    let n = length a.objects in
    let f : ℕ → Option Object = λ name. object_after a r name (object_at a.objects name) in
    all_fewer a.objects (map f (range_with_len 0 n)) (length-map-range_with_len f 0 n) (λ k l.
    subst (λ (q : Option Object). pairs_in q ≤ pairs_in (get_or a.objects k None)) (sym (get_or-map-range_with_len f 0 n k k None l (omega arith))) (object_few a r k (object_at a.objects k)))

passes_few : (n : ℕ) (a : NamedHeap) (last g : ℕ) (records : List PassRecord) → Few n a → Few n (after_passes a last g records)
passes_few n a last g [] h = h
passes_few n a last g (r ∷ rest) h = passes_few n (after_pass_of a last g r) last (g + 1) rest (let less = pass_few a r in omega (arith, less, h))

few_collected : (n : ℕ) (a : NamedHeap) (t last : ℕ) (records : List PassRecord) → Few n a → Few (n + 1) (collected a t last records)
unfolding collected
few_collected n a t last records h = later n (after_passes (closed a) last 0 records) (passes_few n (closed a) last 0 records h)

-- ---- events

few_command : (n : ℕ) (p : Program) (a : NamedHeap) (t : ℕ) (c : Command) → Few n a → (m : Next) → Few (n + 1) (after_command p a t c m)
few_command n p a t c h nexts.Simple = few_outcome n a t h c
few_command n p a t c h nexts.Open = few_outcome n a t h c
few_command n p a t c h (nexts.Build kind k seed) = few_committed n p a t c kind k h
few_command n p a t c h (nexts.Collect last) = later n a h
few_command n p a t c h nexts.End = later n a h
few_command n p a t c h nexts.Done = later n a h

few_opened : (n : ℕ) (a : NamedHeap) (t : ℕ) (ty : _) (first k : ℕ) → Few n a → Few (n + 1) (opened a t ty first k)
unfolding opened
few_opened n a t ty first k h = later n a h

few_event : (n : ℕ) (p : Program) (a : NamedHeap) (e : Event) → Few n a → Few (n + 1) (after p a e)
unfolding after
few_event n p a (Did t c answer) h = few_command n p a t c h (next p a t)
few_event n p a (Opened t ty first k) h = few_opened n a t ty first k h
few_event n p a (Collected t last passes) h = few_collected n a t last passes h
few_event n p a (Ended t) h = later n a h

few_from : (n : ℕ) (p : Program) (a : NamedHeap) (es : List Event) → Few n a → Few (n + length es) (replay_from p a es)
few_from n p a [] h = omega (arith, h)
few_from n p a (e ∷ es) h = (let more = few_from (n + 1) p (after p a e) es (few_event n p a e h) in omega (arith, more))

start_few : (p : Program) → Few 0 (start p)
unfolding start
start_few p = omega arith

pub pairs_few : (p : Program) (es : List Event) → pair_count (replay p es) ≤ length es
pairs_few p es = (let all = few_from 0 p (start p) es (start_few p) in omega (arith, all))
