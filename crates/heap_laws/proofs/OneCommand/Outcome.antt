-- The answer of a command and the heap after it, by what the command wishes for; and a command that is refused.
use Rattle.std.proofs.Common.{◌≡◌, ℕ, ◌+◌, ◌-◌, ◌≤◌, List, [], ◌∷◌, ◌++◌, length, take, arith, length-append, Option, Some, None, Bool, true, false, refl, sym, ◌∙◌, ap}
use Rattle.std.proofs.lemmas.Bool.{false≢true}
use Rattle.std.proofs.lemmas.List.Filters.{length-filter_both}
use Rattle.std.specs.Prelude.{if◌then◌else◌, slice_index_or, slice_set, nat_lt, ◌==◌, ◌||◌, not, filter, count_by}
use Rattle.heap_terms.specs.declared.answers.Answer.{Answer}
use Rattle.heap_terms.specs.declared.answers.Answer.TheVariants as answers
use Rattle.heap_terms.specs.declared.answers.Refusal.{Refusal}
use Rattle.heap_terms.specs.declared.answers.Refusal.TheVariants as refusals
use Rattle.heap_terms.specs.declared.cells.Cell.{Cell}
use Rattle.heap_terms.specs.declared.cells.Raw.{Raw}
use Rattle.heap_terms.specs.declared.cells.Value.{Value}
use Rattle.heap_terms.specs.declared.cells.Value.TheVariants as values
use Rattle.heap_terms.specs.declared.commands.Command.{Command}
use Rattle.heap_terms.specs.declared.commands.Command.TheVariants as commands
use Rattle.heap_terms.specs.declared.events.Event.TheVariants.{Did}
use Rattle.heap_terms.specs.declared.kinds.Kind.{Kind}
use Rattle.heap_terms.specs.declared.limits.TheConstants.{MOST_PINS}
use Rattle.heap_terms.specs.declared.programs.Program.{Program}
use Rattle.heap_terms.specs.Cells.{cell_value, with_cell}
use Rattle.heap_terms.specs.Generations.{allocated}
use Rattle.heap_terms.specs.Heap.{NamedHeap, Thread, thread_at, with_thread, zero_value}
use Rattle.heap_terms.specs.Histories.{IsNext, after, advance, next}
use Rattle.heap_terms.specs.Layout.{size_of}
use Rattle.heap_terms.specs.Objects.{Contents}
use Rattle.heap_terms.specs.Outcome.{Outcome, done, answering, refused, needing, indexing}
use Rattle.heap_terms.specs.Outcomes.{outcome_of}
use Rattle.heap_terms.specs.Outcomes.CollectionCommands.{owing}
use Rattle.heap_terms.specs.Outcomes.FieldCommands.{getting, putting}
use Rattle.heap_terms.specs.Outcomes.PinCommands.{with_pins, pinning, unpinning}
use Rattle.heap_terms.specs.Outcomes.RawCommands.{taking, getting_raw, putting_raw}
use Rattle.heap_terms.specs.Outcomes.TableCommands.{with_pairs_at, found_outcome, table_putting, table_removing}
use Rattle.heap_terms.specs.Outcomes.WeakCommands.{weak_outcome}
use Rattle.heap_terms.specs.PageViews.{page_view}
use Rattle.heap_terms.specs.Pairs.{same_value, has_key, value_at, with_pair, without_key}
use Rattle.heap_terms.specs.RawCells.{raw_value, with_raw, word_plus}
use Rattle.heap_terms.specs.Referents.{Table, name_in, fields_at, raws_at, pointee_at, table_at, with_field, with_field_at, with_raws, with_pairs, changed_at}
use Rattle.heap_terms.specs.Regions.{Wish, Nothing, Make, wish_of, committed, place_for}
use Rattle.heap_terms.specs.Spelling.{word_of}
use Rattle.heap_laws.proofs.Events.Causes.{Builds, by_command}
use Rattle.heap_laws.proofs.Outcomes.Parts.{by_test}

nothing_made : (w : Wish) (kind : Kind) (n seed : ℕ) → w ≡ Nothing → w ≡ Make kind n seed → ⊥
nothing_made w kind n seed none some = let never : Nothing ≡ Make kind n seed = sym none ∙ some in cc

-- a command that makes nothing
pub simple_outcome : (p : Program) (a : NamedHeap) (t : ℕ) (c : Command) (answer : Answer) → wish_of c ≡ Nothing → IsNext p a (Did t c answer) →
    (answer ≡ (outcome_of a t c).answer) × (after p a (Did t c answer) ≡ advance (outcome_of a t c).heap t)
unfolding IsNext after
simple_outcome p a t c answer none e =
    by_command p a t c answer (λ b. (answer ≡ (outcome_of a t c).answer) × (b ≡ advance (outcome_of a t c).heap t))
    (λ d. (d.answered, refl))
    (λ d. absurd (nothing_made (wish_of c) d.kind d.n d.seed none d.wish))
    (λ kind n seed d. absurd (nothing_made (wish_of c) kind n seed none d.wish))
    (next p a t) refl e.0 e.1

-- a commit
pub record IsCommit (p : Program) (a b : NamedHeap) (t : ℕ) (c : Command) (name index : ℕ) : Type 0 where
  pub kind : Kind
  pub n : ℕ
  pub seed : ℕ
  pub wish : wish_of c ≡ Make kind n seed
  pub builds : Builds p a t c (answers.Placed name index) kind n seed
  pub name_is : name ≡ length a.objects
  pub index_is : index ≡ place_for a t kind (size_of kind n)
  pub heap : b ≡ advance (committed p a t c kind n) t

-- an answer that is no refusal and names no new object
pub is_plain : Answer → Bool
is_plain answers.Done = true
is_plain (answers.Val v) = true
is_plain (answers.Word w) = true
is_plain answers.Yes = true
is_plain answers.No = true
is_plain answers.Absent = true
is_plain (answers.Live v) = true
is_plain answers.Broken = true
is_plain (answers.Count n) = true
is_plain (answers.Ran ids) = true
is_plain (answers.Page view) = true
is_plain (answers.Stat allocated cum num) = true
is_plain (answers.Placed name index) = false
is_plain (answers.Refused why) = false

plain-yes_no : (b : Bool) → is_plain (if b then answers.Yes else answers.No) ≡ true
unfolding is_plain
plain-yes_no true = refl
plain-yes_no false = refl

-- What a command of the table comes to: a refusal that changes nothing, or a plain answer with one change.
module _ (P : Outcome → Type 0) (a : NamedHeap) (t : ℕ)
    (refusal : (why : Refusal) → P (refused why a))
    (same : (x : Answer) → is_plain x ≡ true → P (answering x a))
    (cell : (x : Answer) → is_plain x ≡ true → (d : Cell) (v : Value) → P (answering x (with_cell a t d v)))
    (thread : (x : Answer) → is_plain x ≡ true → (th : Thread) → P (answering x (with_thread a t th)))
    (written : (x : Answer) → is_plain x ≡ true → (at : Value) (change : Contents → Contents) → P (answering x (record a { objects = changed_at a.objects at change })))
    (finalized : (x : Answer) → is_plain x ≡ true → (fs : List (ℕ × ℕ)) → length fs ≤ length a.finalizers + 1 → P (answering x (record a { finalizers = fs })))
    (ran : (x : Answer) → is_plain x ≡ true → P (answering x (record a { queue = [] }))) where
  needed : {A : Type 0} (o : Option A) (go : A → Outcome) → ((x : A) → P (go x)) → P (needing o a go)
  needed None go found = refusal refusals.NotType
  needed (Some x) go found = found x

  indexed : {A : Type 0} (xs : List A) (i : ℕ) (default : A) (go : A → Outcome) → P (go (slice_index_or xs i default)) → P (indexing xs i default a go)
  indexed xs i default go found = by_test P (nat_lt i (length xs)) (go (slice_index_or xs i default)) (refused refusals.OutOfRange a) (λ e. found) (λ e. refusal refusals.OutOfRange)

  weak : (d : Cell) (v : Value) → P (weak_outcome a t d v)
  unfolding is_plain
  weak d (values.Fix n) = cell (answers.Live (values.Fix n)) refl d (values.Fix n)
  weak d values.Nil = cell (answers.Live values.Nil) refl d values.Nil
  weak d values.Unbound = cell answers.Broken refl d values.Nil
  weak d (values.Ref name) = cell (answers.Live (values.Ref name)) refl d (values.Ref name)

  found : (d : Cell) (o : Option Value) → P (found_outcome a t d o)
  unfolding is_plain
  found d None = cell answers.Absent refl d values.Nil
  found d (Some v) = cell (answers.Val v) refl d v

  -- the thread with a raw word, or other pins
  raw : (x : Answer) → is_plain x ≡ true → (r : Raw) (word : ℕ) → P (answering x (with_raw a t r word))
  raw x e r word = thread x e (record (thread_at a t) { raws = slice_set (thread_at a t).raws r.0 word })

  pins : (x : Answer) → is_plain x ≡ true → (ps : List ℕ) → P (answering x (with_pins a t ps))
  pins x e ps = thread x e (record (thread_at a t) { pins = ps })

  tabled : (x : Answer) → is_plain x ≡ true → (at : Value) (ps : List (Value × Value)) → P (answering x (with_pairs_at a at ps))
  tabled x e at ps = written x e at (λ k. with_pairs k ps)

  get : (d c : Cell) (i : ℕ) → P (getting a t d c i)
  unfolding is_plain
  get d c i = needed (fields_at a.objects (cell_value a t c)) (λ vs. indexing vs i zero_value a (λ v. answering (answers.Val v) (with_cell a t d v)))
      (λ vs. indexed vs i zero_value (λ v. answering (answers.Val v) (with_cell a t d v))
      (cell (answers.Val (slice_index_or vs i zero_value)) refl d (slice_index_or vs i zero_value)))

  put : (c : Cell) (i : ℕ) (b : Cell) → P (putting a t c i b)
  unfolding is_plain
  put c i b =
      let new = record a { objects = with_field_at a.objects (cell_value a t c) i (cell_value a t b) } in
      needed (fields_at a.objects (cell_value a t c)) (λ vs. indexing vs i zero_value a (λ _. done new))
      (λ vs. indexed vs i zero_value (λ _. done new) (written answers.Done refl (cell_value a t c) (λ k. with_field k i (cell_value a t b))))

  raw_get : (r : Raw) (c : Cell) (i : ℕ) → P (getting_raw a t r c i)
  unfolding is_plain
  raw_get r c i = needed (raws_at a.objects (cell_value a t c)) (λ ws. indexing ws i 0 a (λ word. taking a t r word))
      (λ ws. indexed ws i 0 (λ word. taking a t r word) (raw (answers.Word (slice_index_or ws i 0)) refl r (slice_index_or ws i 0)))

  raw_put : (c : Cell) (i : ℕ) (r : Raw) → P (putting_raw a t c i r)
  unfolding is_plain
  raw_put c i r =
      let new : List ℕ → NamedHeap = λ ws. record a { objects = changed_at a.objects (cell_value a t c) (λ k. with_raws k (slice_set ws i (raw_value a t r))) } in
      needed (raws_at a.objects (cell_value a t c)) (λ ws. indexing ws i 0 a (λ _. done (new ws)))
      (λ ws. indexed ws i 0 (λ _. done (new ws)) (written answers.Done refl (cell_value a t c) (λ k. with_raws k (slice_set ws i (raw_value a t r)))))

  pin : (c : Cell) → P (pinning a t c)
  unfolding is_plain
  pin c = by_test P (nat_lt (length (thread_at a t).pins) MOST_PINS) _ _
      (λ e. pins answers.Done refl ((thread_at a t).pins ++ word_of a.objects (cell_value a t c) ∷ [])) (λ e. refusal refusals.PinsFull)

  unpin : P (unpinning a t)
  unfolding is_plain
  unpin = by_test P (length (thread_at a t).pins == 0) _ _ (λ e. refusal refusals.Nothing)
      (λ e. pins answers.Done refl (take (length (thread_at a t).pins - 1) (thread_at a t).pins))

  table_put : (c k v : Cell) → P (table_putting a t c k v)
  unfolding is_plain
  table_put c k v =
      let at = cell_value a t c in
      let key = cell_value a t k in
      let value = cell_value a t v in
      let go : Table → Outcome = λ table. (if has_key table.pairs key || nat_lt (length table.pairs) table.capacity
      then done (with_pairs_at a at (with_pair table.pairs key value)) else refused refusals.TableFull a) in
      needed (table_at a.objects at) go (λ table. by_test P (has_key table.pairs key || nat_lt (length table.pairs) table.capacity)
      (done (with_pairs_at a at (with_pair table.pairs key value))) (refused refusals.TableFull a)
      (λ e. tabled answers.Done refl at (with_pair table.pairs key value)) (λ e. refusal refusals.TableFull))

  table_remove : (c k : Cell) → P (table_removing a t c k)
  unfolding is_plain
  table_remove c k =
      let at = cell_value a t c in
      let key = cell_value a t k in
      let go : Table → Outcome = λ table. (if has_key table.pairs key
      then answering answers.Yes (with_pairs_at a at (without_key table.pairs key)) else answering answers.No a) in
      needed (table_at a.objects at) go (λ table. by_test P (has_key table.pairs key) (answering answers.Yes (with_pairs_at a at (without_key table.pairs key))) (answering answers.No a)
      (λ e. tabled answers.Yes refl at (without_key table.pairs key)) (λ e. same answers.No refl))

  pub by_table : (c : Command) → P (outcome_of a t c)
  unfolding outcome_of is_plain
  by_table (commands.Fix d n) = cell answers.Done refl d (values.Fix n)
  by_table (commands.MakeNil d) = cell answers.Done refl d values.Nil
  by_table (commands.Move d c) = cell answers.Done refl d (cell_value a t c)
  by_table (commands.NewCons d x y) = refusal refusals.Exhausted
  by_table (commands.NewVector d n) = refusal refusals.Exhausted
  by_table (commands.NewInstance d n) = refusal refusals.Exhausted
  by_table (commands.NewClosure d n) = refusal refusals.Exhausted
  by_table (commands.NewWords d n w) = refusal refusals.Exhausted
  by_table (commands.NewWeak d c) = refusal refusals.Exhausted
  by_table (commands.NewTable d w b) = refusal refusals.Exhausted
  by_table (commands.Get d c i) = get d c i
  by_table (commands.Put c i b) = put c i b
  by_table (commands.RawGet r c i) = raw_get r c i
  by_table (commands.RawPut c i r) = raw_put c i r
  by_table (commands.Same x y) =
      let b = same_value (cell_value a t x) (cell_value a t y) in same (if b then answers.Yes else answers.No) (plain-yes_no b)
  by_table (commands.Show c) = same (answers.Val (cell_value a t c)) refl
  by_table (commands.Addr r c) = raw (answers.Word (word_of a.objects (cell_value a t c))) refl r (word_of a.objects (cell_value a t c))
  by_table (commands.SetRaw r w) = raw answers.Done refl r w
  by_table (commands.AddRaw r k) = raw (answers.Word (word_plus (raw_value a t r) k)) refl r (word_plus (raw_value a t r) k)
  by_table (commands.Pin c) = pin c
  by_table commands.Unpin = unpin
  by_table (commands.WeakVal d c) = needed (pointee_at a.objects (cell_value a t c)) (weak_outcome a t d) (λ v. weak d v)
  by_table (commands.TablePut c k v) = table_put c k v
  by_table (commands.TableGet d c k) = needed (table_at a.objects (cell_value a t c)) (λ table. found_outcome a t d (value_at table.pairs (cell_value a t k)))
      (λ table. found d (value_at table.pairs (cell_value a t k)))
  by_table (commands.TableRem c k) = table_remove c k
  by_table (commands.TableCount c) = needed (table_at a.objects (cell_value a t c)) (λ table. answering (answers.Count (length table.pairs)) a)
      (λ table. same (answers.Count (length table.pairs)) refl)
  by_table (commands.Finalize c id) = needed (name_in (cell_value a t c)) (λ name. done (record a { finalizers = a.finalizers ++ (name, id) ∷ [] }))
      (λ name. finalized answers.Done refl (a.finalizers ++ (name, id) ∷ []) (let long = length-append a.finalizers ((name, id) ∷ []) in omega arith))
  by_table (commands.Cancel c) = needed (name_in (cell_value a t c))
      (λ name. answering (answers.Count (count_by (λ entry. entry.0 == name) a.finalizers)) (record a { finalizers = filter (λ entry. not (entry.0 == name)) a.finalizers }))
      (λ name. finalized (answers.Count (count_by (λ entry. entry.0 == name) a.finalizers)) refl (filter (λ entry. not (entry.0 == name)) a.finalizers) (
      let both = length-filter_both (λ (entry : ℕ × ℕ). entry.0 == name) (λ (entry : ℕ × ℕ). not (entry.0 == name)) (λ entry. refl) a.finalizers in omega arith))
  by_table commands.RunFinalizers = by_test P (length a.queue == 0) (answering answers.Absent a) (answering (answers.Ran a.queue) (record a { queue = [] }))
      (λ e. same answers.Absent refl) (λ e. ran (answers.Ran a.queue) refl)
  by_table (commands.Collect g) = thread answers.Done refl (record (thread_at a t) { owed = owing (thread_at a t).owed g })
  by_table commands.Inhibit = thread answers.Done refl (record (thread_at a t) { inhibits = (thread_at a t).inhibits + 1 })
  by_table commands.Allow = by_test P ((thread_at a t).inhibits == 0) (refused refusals.Nothing a)
      (done (with_thread a t (record (thread_at a t) { inhibits = (thread_at a t).inhibits - 1 })))
      (λ e. refusal refusals.Nothing) (λ e. thread answers.Done refl (record (thread_at a t) { inhibits = (thread_at a t).inhibits - 1 }))
  by_table (commands.ShowPage p) = by_test P (nat_lt p (length a.pages)) (answering (answers.Page (page_view a p)) a) (refused refusals.OutOfRange a)
      (λ e. same (answers.Page (page_view a p)) refl) (λ e. refusal refusals.OutOfRange)
  by_table (commands.Stat g) = same (answers.Stat (allocated a g) (slice_index_or a.cum g 0) (slice_index_or a.num g 0)) refl

-- so an answer of the table is a refusal or plain
pub by_answers : (P : Answer → Type 0) (a : NamedHeap) (t : ℕ) (c : Command) → ((why : Refusal) → P (answers.Refused why)) → ((x : Answer) → is_plain x ≡ true → P x) →
    P (outcome_of a t c).answer
by_answers P a t c refusal plain =
    by_table (λ o. P o.answer) a t refusal plain (λ x e d v. plain x e) (λ x e th. plain x e) (λ x e at change. plain x e) (λ x e fs short. plain x e) plain c

pub placed_not_plain : (name index : ℕ) → is_plain (answers.Placed name index) ≡ true → ⊥
unfolding is_plain
placed_not_plain name index e = false≢true e

refused_not_plain : (why : Refusal) → is_plain (answers.Refused why) ≡ true → ⊥
unfolding is_plain
refused_not_plain why e = false≢true e

-- no command that makes nothing places an object
pub simple_places_nothing : (a : NamedHeap) (t : ℕ) (c : Command) (name index : ℕ) → answers.Placed name index ≡ (outcome_of a t c).answer → ⊥
simple_places_nothing a t c name index e =
    by_answers (λ x. answers.Placed name index ≡ x → ⊥) a t c (λ why f. cc) (λ x plain f. placed_not_plain name index (ap is_plain f ∙ plain)) e

pub commit_outcome : (p : Program) (a : NamedHeap) (t : ℕ) (c : Command) (name index : ℕ) → IsNext p a (Did t c (answers.Placed name index)) →
    IsCommit p a (after p a (Did t c (answers.Placed name index))) t c name index
unfolding IsNext after
commit_outcome p a t c name index e =
    by_command p a t c (answers.Placed name index) (λ b. IsCommit p a b t c name index)
    (λ d. absurd (simple_places_nothing a t c name index d.answered))
    (λ d. (let never = d.answered in cc))
    (λ kind n seed d. record {
      kind = kind;
      n = n;
      seed = seed;
      wish = d.wish;
      builds = d;
      name_is = (let same = d.answered in cc);
      index_is = (let same = d.answered in cc);
      heap = refl;
    })
    (next p a t) refl e.0 e.1

-- a command that is refused changes nothing
pub simple_refused : (a : NamedHeap) (t : ℕ) (c : Command) (why : Refusal) → answers.Refused why ≡ (outcome_of a t c).answer → (outcome_of a t c).heap ≡ a
simple_refused a t c why e =
    let never : (x : Answer) → is_plain x ≡ true → answers.Refused why ≡ x → ⊥ = λ x plain f. refused_not_plain why (ap is_plain f ∙ plain) in
    by_table (λ o. answers.Refused why ≡ o.answer → o.heap ≡ a) a t (λ other f. refl) (λ x plain f. refl)
    (λ x plain d v f. absurd (never x plain f)) (λ x plain th f. absurd (never x plain f)) (λ x plain at change f. absurd (never x plain f))
    (λ x plain fs short f. absurd (never x plain f)) (λ x plain f. absurd (never x plain f)) c e

pub refusal_outcome : (p : Program) (a : NamedHeap) (t : ℕ) (c : Command) (why : Refusal) → IsNext p a (Did t c (answers.Refused why)) →
    after p a (Did t c (answers.Refused why)) ≡ advance a t
unfolding IsNext after
refusal_outcome p a t c why e =
    by_command p a t c (answers.Refused why) (λ b. b ≡ advance a t)
    (λ d. ap (λ x. advance x t) (simple_refused a t c why d.answered))
    (λ d. refl)
    (λ kind n seed d. (let never = d.answered in cc))
    (next p a t) refl e.0 e.1
