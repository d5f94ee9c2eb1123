-- What a command that allocates nothing may change, by the kinds of change: nothing, a cell, the thread's words and
-- numbers, an object in its place, the finalizers, or the queue.
use Rattle.std.proofs.Common.{◌≡◌, ℕ, zero, suc, ◌+◌, ◌-◌, ◌^◌, ◌<◌, ◌≤◌, List, [], ◌∷◌, ◌++◌, length, take, set, Option, Some, None, Bool, false, refl, sym, ◌∙◌, subst, ap, arith}
use Rattle.std.proofs.lemmas.Bool.{ltb-true, false≢true}
use Rattle.std.proofs.lemmas.List.{length-set, length-take, length_push}
use Rattle.std.proofs.lemmas.List.Elements.{All-push, All-filter}
use Rattle.std.specs.List.{All, filter}
use Rattle.std.specs.Prelude.{IfSome, ◌||◌, ◌==◌, not, nat_lt, slice_index_or}
use Rattle.heap_terms.specs.declared.answers.Answer.TheVariants.{Val}
use Rattle.heap_terms.specs.declared.cells.Cell.{Cell}
use Rattle.heap_terms.specs.declared.cells.Raw.{Raw}
use Rattle.heap_terms.specs.declared.cells.Value.{Value}
use Rattle.heap_terms.specs.declared.cells.Value.TheVariants as values
use Rattle.heap_terms.specs.declared.commands.Command.{Command}
use Rattle.heap_terms.specs.declared.commands.Command.TheVariants.{Fix, MakeNil, Move, NewCons, NewVector, NewInstance, NewClosure, NewWords, NewWeak, NewTable, Get, Put, RawGet, RawPut, Same, Show, Addr, SetRaw, AddRaw, Pin, Unpin, WeakVal, TablePut, TableGet, TableRem, TableCount, Finalize, Cancel, RunFinalizers, Collect, Inhibit, Allow, ShowPage, Stat}
use Rattle.heap_terms.specs.declared.limits.TheConstants.{MOST_PAGES}
use Rattle.heap_terms.specs.declared.programs.Program.{Program}
use Rattle.heap_terms.specs.Cells.{cell_value, with_cell}
use Rattle.heap_terms.specs.Heap.{NamedHeap, Thread, thread_at, with_thread, object_at, zero_value}
use Rattle.heap_terms.specs.Living.{IsLiving, HoldsLiving, IsShaped}
use Rattle.heap_terms.specs.Objects.{Object, Contents, ConsOf, VectorOf, InstanceOf, ClosureOf, WordsOf, WeakTo, TableOf, kind_of, payload_of}
use Rattle.heap_terms.specs.Outcome.{Outcome, done, answering}
use Rattle.heap_terms.specs.Outcomes.{outcome_of}
use Rattle.heap_terms.specs.Outcomes.CollectionCommands.{owing}
use Rattle.heap_terms.specs.Outcomes.RawCommands.{taking}
use Rattle.heap_terms.specs.Outcomes.TableCommands.{found_outcome}
use Rattle.heap_terms.specs.Outcomes.WeakCommands.{weak_outcome}
use Rattle.heap_terms.specs.Pairs.{has_key, value_at, with_pair, without_key}
use Rattle.heap_terms.specs.RawCells.{raw_value, with_raw}
use Rattle.heap_terms.specs.Referents.{name_in, fields_at, raws_at, pointee_at, table_at, with_field, with_field_at, with_raws, with_pairs, changed_at}
use Rattle.heap_terms.specs.Sound.{IsFinalizer}
use Rattle.heap_terms.specs.Valid.{IsInRange, is_gc}
use Rattle.heap_terms.specs.WellFormed.{IsWellFormed}
use Rattle.heap_terms.specs.Spelling.{word_of}
use Rattle.heap_laws.proofs.Outcomes.Parts.{by_test, by_needing, by_indexing, Refers, fields_refer, raws_refer, pointee_refers, table_refers, changed_is, with_field-kind, with_field-payload}
use Rattle.heap_laws.proofs.Outcomes.PairLists.{IsLivingPair, pairs_all, all_pairs, All-with_pair, value_at-living, with_pair-distinct, without_key-distinct, with_pair-most, filter_most}
use Rattle.heap_laws.proofs.Outcomes.WordBounds.{word_below, word_plus-below}
use Rattle.heap_laws.proofs.WellFormed.LivingValues.{AreBelow-set, AreBelow-push, AreBelow-take, cell_living, fields_living, with_field_living}
use Rattle.heap_laws.proofs.WellFormed.PagesStay.{IsSameShape}
use Rattle.heap_laws.proofs.WellFormed.Threads.{HasCells, cells_of}

-- a thread with other words and numbers of its own, and the same place in its script and the same regions; unless it asks
-- for a collection it owes what it owed
pub record IsRewritten (objects : List (Option Object)) (asks : Bool) (old new : Thread) : Type 0 where
  pub cells : HasCells objects new
  pub owed : asks ≡ false → new.owed ≡ old.owed
  pub inhibits : new.inhibits ≤ old.inhibits + 1
  pub done : new.done ≡ old.done
  pub ended : new.ended ≡ old.ended
  pub cons_page : new.cons_page ≡ old.cons_page
  pub boxed_page : new.boxed_page ≡ old.boxed_page
  pub unboxed_page : new.unboxed_page ≡ old.unboxed_page
  pub run : new.open_run ≡ old.open_run

-- a change of a field keeps the shape of an object
IsShaped-with_field : (k : Contents) (i : ℕ) (v : Value) → IsShaped k → IsShaped (with_field k i v)
IsShaped-with_field (ConsOf a b) zero v h = tt
IsShaped-with_field (ConsOf a b) (suc zero) v h = tt
IsShaped-with_field (ConsOf a b) (suc (suc i)) v h = tt
IsShaped-with_field (VectorOf vs) i v h = omega (arith, length-set vs i v)
IsShaped-with_field (InstanceOf vs) i v h = omega (arith, length-set vs i v)
IsShaped-with_field (ClosureOf vs) i v h = omega (arith, length-set vs i v)
IsShaped-with_field (WordsOf ws) i v h = h
IsShaped-with_field (WeakTo w) i v h = h
IsShaped-with_field (TableOf w b pairs) i v h = h

owing-most : (o : Option ℕ) (g : ℕ) → IfSome o (λ last. last ≤ 5) → g ≤ 5 → IfSome (owing o g) (λ last. last ≤ 5)
owing-most None g h l = l
owing-most (Some last) g h l = omega arith

module _ (p : Program) (a : NamedHeap) (t : ℕ) (P : NamedHeap → Type 0) (w : IsWellFormed p a) (few : p.pages ≤ MOST_PAGES)
    (inside : t < length p.threads) (alive : (thread_at a t).ended ≡ false) (asks : Bool)
    (same : P a)
    (cell : (d : Cell) (v : Value) → IsLiving a.objects v → P (with_cell a t d v))
    (thread : (th : Thread) → IsRewritten a.objects asks (thread_at a t) th → P (with_thread a t th))
    (written : (name : ℕ) (o q : Object) → object_at a.objects name ≡ Some o → IsSameShape o q → HoldsLiving a.objects q.contents → IsShaped q.contents →
    P (record a { objects = set a.objects name (Some q) }))
    (finalized : (fs : List (ℕ × ℕ)) → All (IsFinalizer a.objects) fs → P (record a { finalizers = fs }))
    (ran : P (record a { queue = [] })) where
  living : (c : Cell) → IsLiving a.objects (cell_value a t c)
  living c = cell_living p a t c w inside

  below : (c : Cell) → word_of a.objects (cell_value a t c) < 2 ^ 64
  below c = word_below a (cell_value a t c) w.sound (omega (arith, w.pages_length)) (living c)

  cells : HasCells a.objects (thread_at a t)
  cells = cells_of (w.threads t inside)

  -- what an object holds that is referred to
  holds : (v : Value) (k : Contents) → Refers a.objects v k → HoldsLiving a.objects k
  holds v k r = subst (λ (x : Contents). HoldsLiving a.objects x) r.holds (w.sound.objects r.name r.object r.there).contents

  shaped : (v : Value) (k : Contents) → Refers a.objects v k → IsShaped k
  shaped v k r = subst (λ (x : Contents). IsShaped x) r.holds (w.sound.objects r.name r.object r.there).shape

  -- the object that a value refers to is changed
  changed : (v : Value) (k : Contents) (change : Contents → Contents) → Refers a.objects v k → kind_of (change k) ≡ kind_of k → payload_of (change k) ≡ payload_of k →
      HoldsLiving a.objects (change k) → IsShaped (change k) → P (record a { objects = changed_at a.objects v change })
  changed v k change r kind payload holding shape =
      let q : Object = record r.object { contents = change r.object.contents } in
      let is : change k ≡ change r.object.contents = ap change (sym r.holds) in
      subst (λ (os : List (Option Object)). P (record a { objects = os })) (sym (changed_is a.objects v k change r))
      (written r.name r.object q r.there
      (record {
        place = refl;
        generation = refl;
        kind = ap (λ (x : Contents). kind_of (change x)) r.holds ∙ kind ∙ ap (λ (x : Contents). kind_of x) (sym r.holds);
        payload = ap (λ (x : Contents). payload_of (change x)) r.holds ∙ payload ∙ ap (λ (x : Contents). payload_of x) (sym r.holds);
      })
      (subst (λ (x : Contents). HoldsLiving a.objects x) is holding)
      (subst (λ (x : Contents). IsShaped x) is shape))

  -- a raw cell
  raw : (r : Raw) (word : ℕ) → word < 2 ^ 64 → P (with_raw a t r word)
  raw r word l = thread (record (thread_at a t) { raws = set (thread_at a t).raws r.0 word }) (record {
    cells = record {
      stack_length = cells.stack_length;
      exact_length = cells.exact_length;
      raws_length = length-set (thread_at a t).raws r.0 word ∙ cells.raws_length;
      stack = cells.stack;
      exact = cells.exact;
      raws = AreBelow-set (2 ^ 64) (thread_at a t).raws r.0 word cells.raws l;
      pins = cells.pins;
      pins_most = cells.pins_most;
      owed = cells.owed;
      inhibits = cells.inhibits;
    };
    owed = λ _. refl;
    inhibits = omega arith;
    done = refl;
    ended = refl;
    cons_page = refl;
    boxed_page = refl;
    unboxed_page = refl;
    run = refl;
  })

  -- the pins
  pinned : (pins : List ℕ) → length pins ≤ 32 → ((i : ℕ) → slice_index_or pins i 0 < 2 ^ 64) → P (with_thread a t (record (thread_at a t) { pins = pins }))
  pinned pins most words = thread (record (thread_at a t) { pins = pins }) (record {
    cells = record {
      stack_length = cells.stack_length;
      exact_length = cells.exact_length;
      raws_length = cells.raws_length;
      stack = cells.stack;
      exact = cells.exact;
      raws = cells.raws;
      pins = words;
      pins_most = most;
      owed = cells.owed;
      inhibits = cells.inhibits;
    };
    owed = λ _. refl;
    inhibits = omega arith;
    done = refl;
    ended = refl;
    cons_page = refl;
    boxed_page = refl;
    unboxed_page = refl;
    run = refl;
  })

  -- what the thread owes, and its inhibit count
  numbered : (owed : Option ℕ) (inhibits : ℕ) → IfSome owed (λ last. last ≤ 5) → (asks ≡ false → owed ≡ (thread_at a t).owed) →
      inhibits ≤ (thread_at a t).inhibits + 1 → P (with_thread a t (record (thread_at a t) { owed = owed; inhibits = inhibits }))
  numbered owed inhibits most is few = thread (record (thread_at a t) { owed = owed; inhibits = inhibits }) (record {
    cells = record {
      stack_length = cells.stack_length;
      exact_length = cells.exact_length;
      raws_length = cells.raws_length;
      stack = cells.stack;
      exact = cells.exact;
      raws = cells.raws;
      pins = cells.pins;
      pins_most = cells.pins_most;
      owed = most;
      inhibits = λ e. absurd (false≢true (sym alive ∙ e));
    };
    owed = is;
    inhibits = few;
    done = refl;
    ended = refl;
    cons_page = refl;
    boxed_page = refl;
    unboxed_page = refl;
    run = refl;
  })

  -- a weak pointer's value goes into a cell
  weak_done : (d : Cell) (v : Value) → HoldsLiving a.objects (WeakTo v) → P (weak_outcome a t d v).heap
  weak_done d (values.Fix n) h = cell d (values.Fix n) h
  weak_done d values.Nil h = cell d values.Nil tt
  weak_done d values.Unbound h = cell d values.Nil tt
  weak_done d (values.Ref name) h = cell d (values.Ref name) h

  -- and what a table has for a key
  found_done : (d : Cell) (o : Option Value) → ((v : Value) → o ≡ Some v → IsLiving a.objects v) → P (found_outcome a t d o).heap
  found_done d None h = cell d values.Nil tt
  found_done d (Some v) h = cell d v (h v refl)

  named : (v : Value) (name : ℕ) → name_in v ≡ Some name → IsLiving a.objects v → IsLiving a.objects (values.Ref name)
  named (values.Fix n) name e h = cc
  named values.Nil name e h = cc
  named values.Unbound name e h = cc
  named (values.Ref other) name e h = let is : other ≡ name = cc in subst (λ (x : ℕ). IsLiving a.objects (values.Ref x)) is h

  pub by_outcome : (c : Command) → is_gc c ≡ asks → IsInRange c → P (outcome_of a t c).heap
  unfolding outcome_of
  by_outcome (Fix d n) asked r = cell d (values.Fix n) r.1
  by_outcome (MakeNil d) asked r = cell d values.Nil tt
  by_outcome (Move d c) asked r = cell d (cell_value a t c) (living c)
  by_outcome (NewCons d x y) asked r = same
  by_outcome (NewVector d n) asked r = same
  by_outcome (NewInstance d n) asked r = same
  by_outcome (NewClosure d n) asked r = same
  by_outcome (NewWords d n v) asked r = same
  by_outcome (NewWeak d c) asked r = same
  by_outcome (NewTable d v b) asked r = same
  by_outcome (Get d c i) asked r = by_needing P (fields_at a.objects (cell_value a t c)) a _ same (λ vs e.
      by_indexing P vs i zero_value a (λ v. answering (Val v) (with_cell a t d v)) same (λ l.
      let f = fields_refer a.objects (cell_value a t c) vs e in
      cell d _ (fields_living a.objects f.0 vs f.2 (holds (cell_value a t c) f.0 f.1) i)))
  by_outcome (Put c i b) asked r = by_needing P (fields_at a.objects (cell_value a t c)) a _ same (λ vs e.
      by_indexing P vs i zero_value a (λ _. done (record a { objects = with_field_at a.objects (cell_value a t c) i (cell_value a t b) })) same (λ l.
      let f = fields_refer a.objects (cell_value a t c) vs e in
      changed (cell_value a t c) f.0 (λ k. with_field k i (cell_value a t b)) f.1 (with_field-kind f.0 i (cell_value a t b)) (with_field-payload f.0 i (cell_value a t b))
      (with_field_living a.objects f.0 i (cell_value a t b) (holds (cell_value a t c) f.0 f.1) (living b))
      (IsShaped-with_field f.0 i (cell_value a t b) (shaped (cell_value a t c) f.0 f.1))))
  by_outcome (RawGet x c i) asked r = by_needing P (raws_at a.objects (cell_value a t c)) a _ same (λ ws e.
      by_indexing P ws i 0 a (λ word. taking a t x word) same (λ l.
      raw x _ ((shaped (cell_value a t c) (WordsOf ws) (raws_refer a.objects (cell_value a t c) ws e)).1 i)))
  by_outcome (RawPut c i x) asked r = by_needing P (raws_at a.objects (cell_value a t c)) a _ same (λ ws e.
      by_indexing P ws i 0 a (λ _. done (record a { objects = changed_at a.objects (cell_value a t c) (λ k. with_raws k (set ws i (raw_value a t x))) })) same (λ l.
      let f = raws_refer a.objects (cell_value a t c) ws e in
      let shape = shaped (cell_value a t c) (WordsOf ws) f in
      let new = set ws i (raw_value a t x) in
      changed (cell_value a t c) (WordsOf ws) (λ k. with_raws k new) f refl (length-set ws i (raw_value a t x)) tt
      (omega (arith, length-set ws i (raw_value a t x), shape.0), AreBelow-set (2 ^ 64) ws i (raw_value a t x) shape.1 (cells.raws x.0))))
  by_outcome (Same x y) asked r = same
  by_outcome (Show c) asked r = same
  by_outcome (Addr x c) asked r = raw x _ (below c)
  by_outcome (SetRaw x v) asked r = raw x v r.1
  by_outcome (AddRaw x k) asked r = raw x _ (word_plus-below (raw_value a t x) k)
  by_outcome (Pin c) asked r =
      let pins = (thread_at a t).pins in
      let word = word_of a.objects (cell_value a t c) in
      by_test (λ (o : Outcome). P o.heap) (nat_lt (length pins) 32) _ _
      (λ e. let l = ltb-true (length pins) 32 e in
      pinned (pins ++ word ∷ []) (omega (arith, length_push pins word)) (AreBelow-push (2 ^ 64) pins word cells.pins (below c)))
      (λ e. same)
  by_outcome Unpin asked r =
      let pins = (thread_at a t).pins in
      by_test (λ (o : Outcome). P o.heap) (length pins == 0) _ _ (λ e. same)
      (λ e. let most = cells.pins_most in
      pinned (take (length pins - 1) pins) (omega (arith, length-take (length pins - 1) pins)) (AreBelow-take (2 ^ 64) pins (length pins - 1) cells.pins))
  by_outcome (WeakVal d c) asked r = by_needing P (pointee_at a.objects (cell_value a t c)) a _ same (λ v e.
      weak_done d v (holds (cell_value a t c) (WeakTo v) (pointee_refers a.objects (cell_value a t c) v e)))
  by_outcome (TablePut c k v) asked r = by_needing P (table_at a.objects (cell_value a t c)) a _ same (λ table e.
      let f = table_refers a.objects (cell_value a t c) table e in
      let shape = shaped (cell_value a t c) (TableOf table.weakness table.capacity table.pairs) f in
      let key = cell_value a t k in
      let value = cell_value a t v in
      let new = with_pair table.pairs key value in
      let old = pairs_all a.objects table.pairs (holds (cell_value a t c) (TableOf table.weakness table.capacity table.pairs) f) in
      by_test (λ (o : Outcome). P o.heap) (has_key table.pairs key || nat_lt (length table.pairs) table.capacity) _ _
      (λ room. changed (cell_value a t c) (TableOf table.weakness table.capacity table.pairs) (λ x. with_pairs x new) f refl refl
      (all_pairs a.objects new (All-with_pair (IsLivingPair a.objects) table.pairs key value old (living k, living v)))
      (shape.0, shape.1, with_pair-most table.pairs key value table.capacity shape.2 room, with_pair-distinct table.pairs key value shape.3))
      (λ full. same))
  by_outcome (TableGet d c k) asked r = by_needing P (table_at a.objects (cell_value a t c)) a _ same (λ table e.
      let f = table_refers a.objects (cell_value a t c) table e in
      let old = pairs_all a.objects table.pairs (holds (cell_value a t c) (TableOf table.weakness table.capacity table.pairs) f) in
      found_done d (value_at table.pairs (cell_value a t k)) (λ v e. value_at-living a.objects table.pairs (cell_value a t k) v old e))
  by_outcome (TableRem c k) asked r = by_needing P (table_at a.objects (cell_value a t c)) a _ same (λ table e.
      let f = table_refers a.objects (cell_value a t c) table e in
      let shape = shaped (cell_value a t c) (TableOf table.weakness table.capacity table.pairs) f in
      let key = cell_value a t k in
      let new = without_key table.pairs key in
      let old = pairs_all a.objects table.pairs (holds (cell_value a t c) (TableOf table.weakness table.capacity table.pairs) f) in
      by_test (λ (o : Outcome). P o.heap) (has_key table.pairs key) _ _
      (λ there. changed (cell_value a t c) (TableOf table.weakness table.capacity table.pairs) (λ x. with_pairs x new) f refl refl
      (all_pairs a.objects new (All-filter _ (IsLivingPair a.objects) table.pairs old))
      (shape.0, shape.1, (let fewer : length new ≤ length table.pairs = filter_most _ table.pairs in omega (arith, shape.2)), without_key-distinct table.pairs key shape.3))
      (λ none. same))
  by_outcome (TableCount c) asked r = by_needing P (table_at a.objects (cell_value a t c)) a _ same (λ table e. same)
  by_outcome (Finalize c id) asked r = by_needing P (name_in (cell_value a t c)) a _ same (λ name e.
      finalized (a.finalizers ++ (name, id) ∷ []) (All-push (IsFinalizer a.objects) a.finalizers (name, id) w.sound.finalizers
      (record { there = named (cell_value a t c) name e (living c); id = r.1 })))
  by_outcome (Cancel c) asked r = by_needing P (name_in (cell_value a t c)) a _ same (λ name e.
      finalized (filter (λ entry. not (entry.0 == name)) a.finalizers) (All-filter (λ entry. not (entry.0 == name)) (IsFinalizer a.objects) a.finalizers w.sound.finalizers))
  by_outcome RunFinalizers asked r = by_test (λ (o : Outcome). P o.heap) (length a.queue == 0) _ _ (λ e. same) (λ e. ran)
  by_outcome (Collect g) asked r = numbered (owing (thread_at a t).owed g) (thread_at a t).inhibits (owing-most (thread_at a t).owed g cells.owed r)
      (λ calm. absurd (false≢true (sym calm ∙ sym asked))) (omega arith)
  by_outcome Inhibit asked r = numbered (thread_at a t).owed ((thread_at a t).inhibits + 1) cells.owed (λ _. refl) (omega arith)
  by_outcome Allow asked r = by_test (λ (o : Outcome). P o.heap) ((thread_at a t).inhibits == 0) _ _ (λ e. same)
      (λ e. numbered (thread_at a t).owed ((thread_at a t).inhibits - 1) cells.owed (λ _. refl) (omega arith))
  by_outcome (ShowPage page) asked r = by_test (λ (o : Outcome). P o.heap) (nat_lt page (length a.pages)) _ _ (λ e. same) (λ e. same)
  by_outcome (Stat g) asked r = same
