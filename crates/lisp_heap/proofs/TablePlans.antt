-- What the commands on weak pointers and tables answer and change.
use Rattle.std.proofs.Common.{◌≡◌, ◌≢◌, ℕ, ◌+◌, ◌<◌, ◌≤◌, true, false, List, [], ◌∷◌, ◌++◌, length, map, take, drop, set, length-set, length-append, refl, sym, ◌∙◌, subst, ap, arith, Option, Some, None, Bool}
use Rattle.std.proofs.lemmas.Bool.{lt-ltb, le-ltb}
use Rattle.std.proofs.lemmas.List.{length-map, length-drop, length-take-le, map-append, map-set, set-get_or, take-map, drop-map}
use Rattle.std.specs.Prelude.{if◌then◌else◌, option_and_then, ◌||◌, nat_lt}
use Rattle.heap_terms.specs.declared.answers.Answer.{Answer}
use Rattle.heap_terms.specs.declared.answers.Answer.TheVariants as answers
use Rattle.heap_terms.specs.declared.answers.Refusal.TheVariants.{NotType, TableFull}
use Rattle.heap_terms.specs.declared.cells.Cell.{Cell}
use Rattle.heap_terms.specs.declared.cells.Value.{Value}
use Rattle.heap_terms.specs.declared.cells.Value.TheVariants as values
use Rattle.heap_terms.specs.declared.commands.Command.{Command}
use Rattle.heap_terms.specs.declared.commands.Command.TheVariants as commands
use Rattle.heap_terms.specs.declared.kinds.Kind.TheVariants as kinds
use Rattle.heap_terms.specs.declared.kinds.Weakness.{Weakness}
use Rattle.heap_terms.specs.declared.pages.Next.TheVariants as nexts
use Rattle.heap_terms.specs.Cells.{cell_value, with_cell}
use Rattle.heap_terms.specs.Generations.{allocated}
use Rattle.heap_terms.specs.Heap.{NamedHeap, object_at}
use Rattle.heap_terms.specs.Histories.{command_at, next}
use Rattle.heap_terms.specs.Layout.{nil_word}
use Rattle.heap_terms.specs.Objects.{Object, Contents, ConsOf, VectorOf, InstanceOf, ClosureOf, WordsOf, WeakTo, TableOf, kind_of}
use Rattle.heap_terms.specs.Outcome.{Outcome, done, answering, refused, needing}
use Rattle.heap_terms.specs.Outcomes.{outcome_of}
use Rattle.heap_terms.specs.Outcomes.TableCommands.{with_pairs_at, found_outcome}
use Rattle.heap_terms.specs.Outcomes.WeakCommands.{weak_outcome}
use Rattle.heap_terms.specs.Pairs.{has_key, value_at, with_pair, without_key}
use Rattle.heap_terms.specs.Referents.{Table, contents_of, pointee_of, pointee_at, table_of, table_at, with_pairs, refilled}
use Rattle.heap_terms.specs.Valid.{IsCell}
use Rattle.heap_terms.specs.WellFormed.{IsLiving}
use Rattle.heap_terms.specs.Spelling.{word_of}
use Rattle.eq_index.specs.Answers.{Inserts, LooksUp, Removes}
use Rattle.eq_index.specs.Tables.{PairWords, Becomes}
use Rattle.eq_index.specs.declared.inserting.Inserted.{Inserted}
use Rattle.eq_index.specs.declared.inserting.Inserted.TheVariants.{Added, Replaced, Full}
use Rattle.lisp_heap.specs.LivingWords.{RefersTo}
use Rattle.lisp_heap.specs.LookUps.{IsFound, IsWordOfFound, answer_after_insert, answer_after_remove}
use Rattle.lisp_heap.specs.Plan.{IsPlan}
use Rattle.lisp_heap.specs.Standing.{Holds}
use Rattle.lisp_heap.specs.WorldSound.{IsSound, parts_of}
use Rattle.lisp_heap.specs.declared.plan.Change.TheVariants as changes
use Rattle.lisp_heap.specs.declared.world.World.TheInside.{Inside}
use Rattle.lisp_heap.proofs.KeyedPairs.{no_key, no_value, added_last, the_key, the_value, replaced_there, removed_there}
use Rattle.lisp_heap.proofs.ObjectChanges.{Holds-changed}
use Rattle.lisp_heap.proofs.Plans.{planned}
use Rattle.lisp_heap.proofs.Soundness.{heap, well_formed}
use Rattle.lisp_heap.proofs.TablesHere.{in_words, shape, value_living, found_at_key, found_nowhere, changes as changes_object, pair_words}
use Rattle.lisp_heap.proofs.TableSlots.{pair_of}
use Rattle.lisp_heap.proofs.TableSteps.{IsDoneInSpace, words_kept}

-- ---- what a value refers to

no_table_in : (k : Contents) → kind_of k ≢ kinds.Table → table_of k ≡ None
no_table_in (ConsOf a b) n = refl
no_table_in (VectorOf vs) n = refl
no_table_in (InstanceOf vs) n = refl
no_table_in (ClosureOf vs) n = refl
no_table_in (WordsOf ws) n = refl
no_table_in (WeakTo v) n = refl
no_table_in (TableOf w b pairs) n = absurd (n refl)

no_pointee_in : (k : Contents) → kind_of k ≢ kinds.Weak → pointee_of k ≡ None
no_pointee_in (ConsOf a b) n = refl
no_pointee_in (VectorOf vs) n = refl
no_pointee_in (InstanceOf vs) n = refl
no_pointee_in (ClosureOf vs) n = refl
no_pointee_in (WordsOf ws) n = refl
no_pointee_in (WeakTo v) n = absurd (n refl)
no_pointee_in (TableOf w b pairs) n = refl

-- what the objects to which a value may refer lack, it lacks
lacks : {X : Type 0} (part : Contents → Option X) (objects : List (Option Object)) (name : ℕ) (x : Option Object) → object_at objects name ≡ x →
    ((o : Object) → RefersTo objects (values.Ref name) o → part o.contents ≡ None) → option_and_then part (contents_of x) ≡ None
lacks part objects name None e h = refl
lacks part objects name (Some o) e h = h o (record { name = name; value_is = refl; there = e })

pub no_table : (objects : List (Option Object)) (v : Value) → ((o : Object) → RefersTo objects v o → kind_of o.contents ≢ kinds.Table) → table_at objects v ≡ None
no_table objects (values.Fix n) h = refl
no_table objects values.Nil h = refl
no_table objects values.Unbound h = refl
no_table objects (values.Ref name) h = lacks table_of objects name (object_at objects name) refl (λ o r. no_table_in o.contents (h o r))

pub no_pointee : (objects : List (Option Object)) (v : Value) → ((o : Object) → RefersTo objects v o → kind_of o.contents ≢ kinds.Weak) → pointee_at objects v ≡ None
no_pointee objects (values.Fix n) h = refl
no_pointee objects values.Nil h = refl
no_pointee objects values.Unbound h = refl
no_pointee objects (values.Ref name) h = lacks pointee_of objects name (object_at objects name) refl (λ o r. no_pointee_in o.contents (h o r))

pub table_is : (objects : List (Option Object)) (v : Value) (o : Object) (w : Weakness) (b : ℕ) (pairs : List (Value × Value)) → RefersTo objects v o →
    o.contents ≡ TableOf w b pairs → table_at objects v ≡ Some (record { weakness = w; capacity = b; pairs = pairs })
table_is objects v o w b pairs r is =
    ap (table_at objects) r.value_is ∙ ap (λ (z : Option Object). option_and_then table_of (contents_of z)) r.there ∙ ap table_of is

pub pointee_is : (objects : List (Option Object)) (v : Value) (o : Object) (u : Value) → RefersTo objects v o → o.contents ≡ WeakTo u → pointee_at objects v ≡ Some u
pointee_is objects v o u r is =
    ap (pointee_at objects) r.value_is ∙ ap (λ (z : Option Object). option_and_then pointee_of (contents_of z)) r.there ∙ ap pointee_of is

-- ---- weak pointers

-- what an object of the kind of weak pointers holds
pub weak_contents : (k : Contents) → kind_of k ≡ kinds.Weak → (u : Value) × (k ≡ WeakTo u)
weak_contents (ConsOf a b) e = cc
weak_contents (VectorOf vs) e = cc
weak_contents (InstanceOf vs) e = cc
weak_contents (ClosureOf vs) e = cc
weak_contents (WordsOf ws) e = cc
weak_contents (WeakTo v) e = (v, refl)
weak_contents (TableOf w b pairs) e = cc

weak_outcome_of : (a : NamedHeap) (t : ℕ) (d c : Cell) → outcome_of a t (commands.WeakVal d c) ≡ needing (pointee_at a.objects (cell_value a t c)) a (weak_outcome a t d)
unfolding outcome_of
weak_outcome_of a t d c = refl

weak_found : (a : NamedHeap) (t : ℕ) (d c : Cell) (u : Value) → pointee_at a.objects (cell_value a t c) ≡ Some u → outcome_of a t (commands.WeakVal d c) ≡ weak_outcome a t d u
weak_found a t d c u is = weak_outcome_of a t d c ∙ ap (λ (o : Option Value). needing o a (weak_outcome a t d)) is

pub weak_none : (a : NamedHeap) (t : ℕ) (d c : Cell) → pointee_at a.objects (cell_value a t c) ≡ None → IsPlan a t (commands.WeakVal d c) (answers.Refused NotType) changes.Nothing
weak_none a t d c none = planned a t (commands.WeakVal d c) (refused NotType a) (answers.Refused NotType) changes.Nothing
    (weak_outcome_of a t d c ∙ ap (λ (o : Option Value). needing o a (weak_outcome a t d)) none) refl refl

pub weak_broken : (a : NamedHeap) (t : ℕ) (d c : Cell) → IsCell d → pointee_at a.objects (cell_value a t c) ≡ Some values.Unbound →
    IsPlan a t (commands.WeakVal d c) answers.Broken (changes.InCell d nil_word)
weak_broken a t d c ok is = planned a t (commands.WeakVal d c) (answering answers.Broken (with_cell a t d values.Nil)) answers.Broken (changes.InCell d nil_word)
    (weak_found a t d c values.Unbound is) refl (record { value = values.Nil; is_cell = ok; word_is = refl; effect = refl })

live_outcome : (a : NamedHeap) (t : ℕ) (d : Cell) (u : Value) → IsLiving a.objects u → weak_outcome a t d u ≡ answering (answers.Live u) (with_cell a t d u)
live_outcome a t d (values.Fix n) h = refl
live_outcome a t d values.Nil h = refl
live_outcome a t d values.Unbound h = absurd h
live_outcome a t d (values.Ref name) h = refl

pub weak_live : (a : NamedHeap) (t : ℕ) (d c : Cell) (u v : Value) (word : ℕ) → IsCell d → pointee_at a.objects (cell_value a t c) ≡ Some u → IsLiving a.objects u →
    v ≡ u → word ≡ word_of a.objects u → IsPlan a t (commands.WeakVal d c) (answers.Live v) (changes.InCell d word)
weak_live a t d c u v word ok is living same word_is =
    planned a t (commands.WeakVal d c) (answering (answers.Live u) (with_cell a t d u)) (answers.Live v) (changes.InCell d word)
    (weak_found a t d c u is ∙ live_outcome a t d u living) (ap (λ (x : Value). answers.Live x) same)
    (record { value = u; is_cell = ok; word_is = word_is; effect = refl })

-- ---- tables: refusals and `tcount`

put_outcome : (a : NamedHeap) (t : ℕ) (c k v : Cell) → outcome_of a t (commands.TablePut c k v) ≡ needing (table_at a.objects (cell_value a t c)) a (λ table.
    if has_key table.pairs (cell_value a t k) || nat_lt (length table.pairs) table.capacity
    then done (with_pairs_at a (cell_value a t c) (with_pair table.pairs (cell_value a t k) (cell_value a t v)))
    else refused TableFull a)
unfolding outcome_of
put_outcome a t c k v = refl

get_outcome : (a : NamedHeap) (t : ℕ) (d c k : Cell) → outcome_of a t (commands.TableGet d c k) ≡ needing (table_at a.objects (cell_value a t c)) a (λ table.
    found_outcome a t d (value_at table.pairs (cell_value a t k)))
unfolding outcome_of
get_outcome a t d c k = refl

remove_outcome : (a : NamedHeap) (t : ℕ) (c k : Cell) → outcome_of a t (commands.TableRem c k) ≡ needing (table_at a.objects (cell_value a t c)) a (λ table.
    if has_key table.pairs (cell_value a t k)
    then answering answers.Yes (with_pairs_at a (cell_value a t c) (without_key table.pairs (cell_value a t k)))
    else answering answers.No a)
unfolding outcome_of
remove_outcome a t c k = refl

count_outcome : (a : NamedHeap) (t : ℕ) (c : Cell) → outcome_of a t (commands.TableCount c) ≡ needing (table_at a.objects (cell_value a t c)) a (λ table. answering (answers.Count (length table.pairs)) a)
unfolding outcome_of
count_outcome a t c = refl

-- what a command comes to that needs a table, where there is none or this one
needs_none : (a : NamedHeap) (v : Value) (go : Table → Outcome) → table_at a.objects v ≡ None → needing (table_at a.objects v) a go ≡ refused NotType a
needs_none a v go none = ap (λ (o : Option Table). needing o a go) none

needs_one : (a : NamedHeap) (v : Value) (go : Table → Outcome) (table : Table) → table_at a.objects v ≡ Some table → needing (table_at a.objects v) a go ≡ go table
needs_one a v go table is = ap (λ (o : Option Table). needing o a go) is

pub put_none : (a : NamedHeap) (t : ℕ) (c k v : Cell) → table_at a.objects (cell_value a t c) ≡ None → IsPlan a t (commands.TablePut c k v) (answers.Refused NotType) changes.Nothing
put_none a t c k v none = planned a t (commands.TablePut c k v) (refused NotType a) (answers.Refused NotType) changes.Nothing
    (put_outcome a t c k v ∙ needs_none a (cell_value a t c) _ none) refl refl

pub get_none : (a : NamedHeap) (t : ℕ) (d c k : Cell) → table_at a.objects (cell_value a t c) ≡ None → IsPlan a t (commands.TableGet d c k) (answers.Refused NotType) changes.Nothing
get_none a t d c k none = planned a t (commands.TableGet d c k) (refused NotType a) (answers.Refused NotType) changes.Nothing
    (get_outcome a t d c k ∙ needs_none a (cell_value a t c) _ none) refl refl

pub remove_none : (a : NamedHeap) (t : ℕ) (c k : Cell) → table_at a.objects (cell_value a t c) ≡ None → IsPlan a t (commands.TableRem c k) (answers.Refused NotType) changes.Nothing
remove_none a t c k none = planned a t (commands.TableRem c k) (refused NotType a) (answers.Refused NotType) changes.Nothing
    (remove_outcome a t c k ∙ needs_none a (cell_value a t c) _ none) refl refl

pub count_none : (a : NamedHeap) (t : ℕ) (c : Cell) → table_at a.objects (cell_value a t c) ≡ None → IsPlan a t (commands.TableCount c) (answers.Refused NotType) changes.Nothing
count_none a t c none = planned a t (commands.TableCount c) (refused NotType a) (answers.Refused NotType) changes.Nothing
    (count_outcome a t c ∙ needs_none a (cell_value a t c) _ none) refl refl

pub count_is : (a : NamedHeap) (t : ℕ) (c : Cell) (table : Table) (n : ℕ) → table_at a.objects (cell_value a t c) ≡ Some table → n ≡ length table.pairs →
    IsPlan a t (commands.TableCount c) (answers.Count n) changes.Nothing
count_is a t c table n is many = planned a t (commands.TableCount c) (answering (answers.Count (length table.pairs)) a) (answers.Count n) changes.Nothing
    (count_outcome a t c ∙ needs_one a (cell_value a t c) _ table is) (ap (λ (x : ℕ). answers.Count x) many) refl

-- ---- `tget`

pub value_is : (a : NamedHeap) (t : ℕ) (d c k : Cell) (v : Value) (word : ℕ) → IsCell d → (f : IsFound a t c k (Some word)) →
    ((u : Value) → IsLiving a.objects u → word ≡ word_of a.objects u → v ≡ u) → IsPlan a t (commands.TableGet d c k) (answers.Val v) (changes.InCell d word)
value_is a t d c k v word ok f reads = by_value (value_at f.table.pairs (cell_value a t k)) refl f.word_is
  where
    by_value : (o : Option Value) → value_at f.table.pairs (cell_value a t k) ≡ o → IsWordOfFound a.objects o (Some word) → IsPlan a t (commands.TableGet d c k) (answers.Val v) (changes.InCell d word)
    by_value None e h = absurd h
    by_value (Some u) e h =
        planned a t (commands.TableGet d c k) (answering (answers.Val u) (with_cell a t d u)) (answers.Val v) (changes.InCell d word)
        (get_outcome a t d c k ∙ needs_one a (cell_value a t c) _ f.table f.there ∙ ap (found_outcome a t d) e)
        (ap (λ (x : Value). answers.Val x) (reads u h.0 h.1))
        (record { value = u; is_cell = ok; word_is = h.1; effect = refl })

pub absent_is : (a : NamedHeap) (t : ℕ) (d c k : Cell) → IsCell d → (f : IsFound a t c k None) → IsPlan a t (commands.TableGet d c k) answers.Absent (changes.InCell d nil_word)
absent_is a t d c k ok f = by_value (value_at f.table.pairs (cell_value a t k)) refl f.word_is
  where
    by_value : (o : Option Value) → value_at f.table.pairs (cell_value a t k) ≡ o → IsWordOfFound a.objects o None → IsPlan a t (commands.TableGet d c k) answers.Absent (changes.InCell d nil_word)
    by_value (Some u) e h = absurd h
    by_value None e h =
        planned a t (commands.TableGet d c k) (answering answers.Absent (with_cell a t d values.Nil)) answers.Absent (changes.InCell d nil_word)
        (get_outcome a t d c k ∙ needs_one a (cell_value a t c) _ f.table f.there ∙ ap (found_outcome a t d) e) refl
        (record { value = values.Nil; is_cell = ok; word_is = refl; effect = refl })

-- ---- a table there

module _ (s : Inside) (h : IsSound s) (t : ℕ) (c : Cell) (o : Object) (w : Weakness) (b : ℕ) (pairs : List (Value × Value))
    (r : RefersTo (heap s).objects (cell_value (heap s) t c) o) (is : o.contents ≡ TableOf w b pairs) where
  abbrev objects : List (Option Object)
  objects = (heap s).objects

  abbrev words_of_pairs : List PairWords
  words_of_pairs = map (in_words objects) pairs

  -- the objects with other pairs in the table
  abbrev objects_with : List (Value × Value) → List (Option Object)
  objects_with now = set objects r.name (Some (record o { contents = TableOf w b now }))

  abbrev heap_with : List (Value × Value) → NamedHeap
  heap_with now = record (heap s) { objects = objects_with now }

  abbrev this : Table
  this = record { weakness = w; capacity = b; pairs = pairs }

  there : table_at objects (cell_value (heap s) t c) ≡ Some this
  there = table_is objects (cell_value (heap s) t c) o w b pairs r is

  many : length words_of_pairs ≡ length pairs
  many = length-map pairs (in_words objects)

  few : length pairs ≤ b
  few = (shape s h r.name o w b pairs r.there is).2

  with_now : (now : List (Value × Value)) → with_pairs_at (heap s) (cell_value (heap s) t c) now ≡ heap_with now
  with_now now =
      ap (λ (z : Value). with_pairs_at (heap s) z now) r.value_is
      ∙ ap (λ (z : Option Object). record (heap s) { objects = set objects r.name (refilled z (λ k. with_pairs k now)) }) r.there
      ∙ ap (λ (k : Contents). record (heap s) { objects = set objects r.name (Some (record o { contents = with_pairs k now })) }) is

  -- the table with the pairs that it has is itself
  same_heap : heap_with pairs ≡ heap s
  same_heap =
      ap (λ (k : Contents). record (heap s) { objects = set objects r.name (Some (record o { contents = k })) }) (sym is)
      ∙ ap (λ (z : Option Object). record (heap s) { objects = set objects r.name z }) (sym r.there)
      ∙ ap (λ (os : List (Option Object)). record (heap s) { objects = os }) (set-get_or objects r.name None)

  module _ (new : List ℕ) where
    stands : (now : List (Value × Value)) → length now ≤ b → Becomes s.space new o.place b (map (in_words objects) now) →
        ((g : ℕ) → allocated (heap_with now) g ≡ allocated (heap s) g) → Holds (heap_with now) (record (parts_of s) { words = new })
    stands now low m same = Holds-changed (heap s) s.space new r.name o (TableOf w b now) (well_formed s h).sound h.holds.words
        (changes_object s h r.name o w b pairs r.there is new now low m) (parts_of s) refl same h.holds

    -- a look-up leaves words that stand for the same heap
    pub looked_up : Becomes s.space new o.place b words_of_pairs → Holds (heap s) (record (parts_of s) { words = new })
    looked_up m = subst (λ (a : NamedHeap). Holds a (record (parts_of s) { words = new })) same_heap
        (stands pairs few m (λ g. ap (λ (a : NamedHeap). allocated a g) same_heap))

    pub pairs_stay : (k : Command) (answer : Answer) → outcome_of (heap s) t k ≡ answering answer (heap s) → Becomes s.space new o.place b words_of_pairs → IsDoneInSpace s t k answer new
    pairs_stay k answer said m = record {
      answers = ap (λ (x : Outcome). x.answer) (sym said);
      threads = ap (λ (x : Outcome). x.heap.threads) said;
      pages = ap (λ (x : Outcome). x.heap.pages) said;
      holds = subst (λ (x : Outcome). Holds x.heap (record (parts_of s) { words = new })) (sym said) (looked_up m);
    }

    module _ (lt : t < length s.program.threads) (k : Command) (at : command_at s.program (heap s) t ≡ Some k) (simple : next s.program (heap s) t ≡ nexts.Simple) where
      pub pairs_change : (now : List (Value × Value)) (answer : Answer) → outcome_of (heap s) t k ≡ answering answer (heap_with now) → length now ≤ b →
          Becomes s.space new o.place b (map (in_words objects) now) → IsDoneInSpace s t k answer new
      pairs_change now answer said low m = record {
        answers = ap (λ (x : Outcome). x.answer) (sym said);
        threads = ap (λ (x : Outcome). x.heap.threads) said;
        pages = ap (λ (x : Outcome). x.heap.pages) said;
        holds = subst (λ (x : Outcome). Holds x.heap (record (parts_of s) { words = new })) (sym said)
            (stands now low m (λ g. ap (λ (x : Outcome). allocated x.heap g) (sym said) ∙ words_kept s h t k lt at simple g));
      }

  -- the word that was found is that of the value of the key
  pub found_is : (k : Cell) (found : Option ℕ) → IsLiving objects (cell_value (heap s) t k) → LooksUp words_of_pairs (word_of objects (cell_value (heap s) t k)) found →
      IsFound (heap s) t c k found
  found_is k None lives none = record {
    table = this;
    there = there;
    word_is = subst (λ (x : Option Value). IsWordOfFound objects x None)
        (sym (no_value pairs (cell_value (heap s) t k) (found_nowhere s h r.name o w b pairs r.there is (cell_value (heap s) t k) lives none))) tt;
  }
  found_is k (Some word) lives found =
      let only = found_at_key s h r.name o w b pairs r.there is (cell_value (heap s) t k) found.0 lives found.1 in
      let word_is : word ≡ word_of objects (pair_of pairs found.0).1 =
      sym found.2 ∙ ap (λ (p : PairWords). p.value) (pair_words objects pairs found.0 only.low) in
      record {
        table = this;
        there = there;
        word_is = subst (λ (x : Option Value). IsWordOfFound objects x (Some word)) (sym (the_value pairs (cell_value (heap s) t k) found.0 only))
            (value_living s h r.name o w b pairs r.there is found.0 only.low, word_is);
      }

-- ---- `tput` and `trem`

module _ (s : Inside) (h : IsSound s) (t : ℕ) (c : Cell) (o : Object) (w : Weakness) (b : ℕ) (pairs : List (Value × Value))
    (r : RefersTo (heap s).objects (cell_value (heap s) t c) o) (is : o.contents ≡ TableOf w b pairs) (new : List ℕ) (lt : t < length s.program.threads) where
  abbrev key_of : Cell → Value
  key_of k = cell_value (heap s) t k

  pub put_done : (k v : Cell) (result : Inserted) (after : List PairWords) → command_at s.program (heap s) t ≡ Some (commands.TablePut c k v) →
      next s.program (heap s) t ≡ nexts.Simple → IsLiving (heap s).objects (key_of k) →
      Inserts b (map (in_words (heap s).objects) pairs) (in_words (heap s).objects (key_of k, key_of v)) result after → Becomes s.space new o.place b after →
      IsDoneInSpace s t (commands.TablePut c k v) (answer_after_insert result) new
  put_done k v Replaced after at simple lives (slot, found, is_after) m =
      let only = found_at_key s h r.name o w b pairs r.there is (key_of k) slot lives found in
      let now = set pairs slot (key_of k, key_of v) in
      let words_are : after ≡ map (in_words (heap s).objects) now = is_after ∙ sym (map-set (in_words (heap s).objects) pairs slot (key_of k, key_of v)) in
      let said : outcome_of (heap s) t (commands.TablePut c k v) ≡ done (heap_with s h t c o w b pairs r is now) =
      put_outcome (heap s) t c k v ∙ needs_one (heap s) (key_of c) _ (this s h t c o w b pairs r is) (there s h t c o w b pairs r is)
      ∙ ap (λ (x : Bool). if x || nat_lt (length pairs) b then done (with_pairs_at (heap s) (key_of c) (with_pair pairs (key_of k) (key_of v))) else refused TableFull (heap s)) (the_key pairs (key_of k) slot only)
      ∙ ap (λ (ps : List (Value × Value)). done (with_pairs_at (heap s) (key_of c) ps)) (replaced_there pairs (key_of k) (key_of v) slot only)
      ∙ ap done (with_now s h t c o w b pairs r is now) in
      pairs_change s h t c o w b pairs r is new lt (commands.TablePut c k v) at simple now answers.Done said
      (omega (arith, length-set pairs slot (key_of k, key_of v), few s h t c o w b pairs r is))
      (subst (λ (ps : List PairWords). Becomes s.space new o.place b ps) words_are m)
  put_done k v Added after at simple lives (none, room, is_after) m =
      let nowhere = found_nowhere s h r.name o w b pairs r.there is (key_of k) lives none in
      let now = pairs ++ (key_of k, key_of v) ∷ [] in
      let low : length pairs < b = omega (arith, room, many s h t c o w b pairs r is) in
      let words_are : after ≡ map (in_words (heap s).objects) now = is_after ∙ sym (map-append (in_words (heap s).objects) pairs ((key_of k, key_of v) ∷ [])) in
      let said : outcome_of (heap s) t (commands.TablePut c k v) ≡ done (heap_with s h t c o w b pairs r is now) =
      put_outcome (heap s) t c k v ∙ needs_one (heap s) (key_of c) _ (this s h t c o w b pairs r is) (there s h t c o w b pairs r is)
      ∙ ap (λ (x : Bool). if x || nat_lt (length pairs) b then done (with_pairs_at (heap s) (key_of c) (with_pair pairs (key_of k) (key_of v))) else refused TableFull (heap s)) (no_key pairs (key_of k) nowhere)
      ∙ ap (λ (x : Bool). if x then done (with_pairs_at (heap s) (key_of c) (with_pair pairs (key_of k) (key_of v))) else refused TableFull (heap s)) (lt-ltb (length pairs) b low)
      ∙ ap (λ (ps : List (Value × Value)). done (with_pairs_at (heap s) (key_of c) ps)) (added_last pairs (key_of k) (key_of v) nowhere)
      ∙ ap done (with_now s h t c o w b pairs r is now) in
      pairs_change s h t c o w b pairs r is new lt (commands.TablePut c k v) at simple now answers.Done said
      (omega (arith, length-append pairs ((key_of k, key_of v) ∷ []), low))
      (subst (λ (ps : List PairWords). Becomes s.space new o.place b ps) words_are m)
  put_done k v Full after at simple lives (none, full, is_after) m =
      let nowhere = found_nowhere s h r.name o w b pairs r.there is (key_of k) lives none in
      let past : b ≤ length pairs = omega (arith, full, many s h t c o w b pairs r is) in
      let said : outcome_of (heap s) t (commands.TablePut c k v) ≡ refused TableFull (heap s) =
      put_outcome (heap s) t c k v ∙ needs_one (heap s) (key_of c) _ (this s h t c o w b pairs r is) (there s h t c o w b pairs r is)
      ∙ ap (λ (x : Bool). if x || nat_lt (length pairs) b then done (with_pairs_at (heap s) (key_of c) (with_pair pairs (key_of k) (key_of v))) else refused TableFull (heap s)) (no_key pairs (key_of k) nowhere)
      ∙ ap (λ (x : Bool). if x then done (with_pairs_at (heap s) (key_of c) (with_pair pairs (key_of k) (key_of v))) else refused TableFull (heap s)) (le-ltb (length pairs) b past) in
      pairs_stay s h t c o w b pairs r is new (commands.TablePut c k v) (answers.Refused TableFull) said
      (subst (λ (ps : List PairWords). Becomes s.space new o.place b ps) is_after m)

  pub remove_done : (k : Cell) (result : Bool) (after : List PairWords) → command_at s.program (heap s) t ≡ Some (commands.TableRem c k) →
      next s.program (heap s) t ≡ nexts.Simple → IsLiving (heap s).objects (key_of k) →
      Removes (map (in_words (heap s).objects) pairs) (word_of (heap s).objects (key_of k)) result after → Becomes s.space new o.place b after →
      IsDoneInSpace s t (commands.TableRem c k) (answer_after_remove result) new
  remove_done k true after at simple lives (slot, found, is_after) m =
      let only = found_at_key s h r.name o w b pairs r.there is (key_of k) slot lives found in
      let now = take slot pairs ++ drop (slot + 1) pairs in
      let objects = (heap s).objects in
      let words_are : after ≡ map (in_words objects) now =
      is_after ∙ ap (λ (ps : List PairWords). ps ++ drop (slot + 1) (map (in_words objects) pairs)) (take-map (in_words objects) slot pairs)
      ∙ ap (λ (ps : List PairWords). map (in_words objects) (take slot pairs) ++ ps) (drop-map (in_words objects) (slot + 1) pairs)
      ∙ sym (map-append (in_words objects) (take slot pairs) (drop (slot + 1) pairs)) in
      let said : outcome_of (heap s) t (commands.TableRem c k) ≡ answering answers.Yes (heap_with s h t c o w b pairs r is now) =
      remove_outcome (heap s) t c k ∙ needs_one (heap s) (key_of c) _ (this s h t c o w b pairs r is) (there s h t c o w b pairs r is)
      ∙ ap (λ (x : Bool). if x then answering answers.Yes (with_pairs_at (heap s) (key_of c) (without_key pairs (key_of k))) else answering answers.No (heap s)) (the_key pairs (key_of k) slot only)
      ∙ ap (λ (ps : List (Value × Value)). answering answers.Yes (with_pairs_at (heap s) (key_of c) ps)) (removed_there pairs (key_of k) slot only)
      ∙ ap (answering answers.Yes) (with_now s h t c o w b pairs r is now) in
      let front = length-take-le slot pairs (omega (arith, only.low)) in
      let back = length-drop (slot + 1) pairs in
      pairs_change s h t c o w b pairs r is new lt (commands.TableRem c k) at simple now answers.Yes said
      (omega (arith, length-append (take slot pairs) (drop (slot + 1) pairs), front, back, only.low, few s h t c o w b pairs r is))
      (subst (λ (ps : List PairWords). Becomes s.space new o.place b ps) words_are m)
  remove_done k false after at simple lives (none, is_after) m =
      let nowhere = found_nowhere s h r.name o w b pairs r.there is (key_of k) lives none in
      let said : outcome_of (heap s) t (commands.TableRem c k) ≡ answering answers.No (heap s) =
      remove_outcome (heap s) t c k ∙ needs_one (heap s) (key_of c) _ (this s h t c o w b pairs r is) (there s h t c o w b pairs r is)
      ∙ ap (λ (x : Bool). if x then answering answers.Yes (with_pairs_at (heap s) (key_of c) (without_key pairs (key_of k))) else answering answers.No (heap s)) (no_key pairs (key_of k) nowhere) in
      pairs_stay s h t c o w b pairs r is new (commands.TableRem c k) answers.No said
      (subst (λ (ps : List PairWords). Becomes s.space new o.place b ps) is_after m)
