-- What the commands that allocate nothing answer and change.
use Rattle.std.proofs.Common.{◌≡◌, ℕ, ◌+◌, ◌-◌, ◌<◌, ◌≤◌, eqb, ltb, true, false, List, [], ◌∷◌, ◌++◌, length, refl, sym, ◌∙◌, subst, ap, arith, get_or, set, length-set, Option, Some, None, Bool, ℤ, FitsSigned, w64, pos, negsuc}
use Rattle.std.proofs.lemmas.Bool.{lt-ltb, le-ltb, eq-eqb, ne_eqb}
use Rattle.std.proofs.lemmas.Option.{slice_get_within}
use Rattle.std.specs.Prelude.{if◌then◌else◌, option_and_then}
use Rattle.heap_terms.specs.declared.answers.Answer.{Answer}
use Rattle.heap_terms.specs.declared.answers.Answer.TheVariants as answers
use Rattle.heap_terms.specs.declared.answers.Refusal.TheVariants.{NotType, OutOfRange, Nothing, PinsFull}
use Rattle.heap_terms.specs.declared.cells.Cell.{Cell}
use Rattle.heap_terms.specs.declared.cells.Raw.{Raw}
use Rattle.heap_terms.specs.declared.cells.Value.{Value}
use Rattle.heap_terms.specs.declared.cells.Value.TheVariants as values
use Rattle.heap_terms.specs.declared.commands.Command.{Command}
use Rattle.heap_terms.specs.declared.commands.Command.TheVariants as commands
use Rattle.heap_terms.specs.Cells.{cell_value, with_cell}
use Rattle.heap_terms.specs.Heap.{NamedHeap, thread_at, with_thread, zero_value}
use Rattle.heap_terms.specs.Layout.{fixnum_word, nil_word}
use Rattle.heap_terms.specs.Objects.{Object, Contents, WordsOf, kind_of, payload_of, fields_of}
use Rattle.heap_terms.specs.Outcome.{Outcome, done, answering, refused, needing, indexing}
use Rattle.heap_terms.specs.Outcomes.{outcome_of}
use Rattle.heap_terms.specs.Outcomes.CollectionCommands.{owing}
use Rattle.heap_terms.specs.Outcomes.PinCommands.{with_pins}
use Rattle.heap_terms.specs.Outcomes.RawCommands.{taking}
use Rattle.heap_terms.specs.Pairs.{same_value}
use Rattle.heap_terms.specs.RawCells.{raw_value, with_raw, word_plus}
use Rattle.heap_terms.specs.Referents.{contents_of, fields_at, with_field, with_field_at, raws_at, raws_of, with_raws, changed_at, refilled}
use Rattle.heap_terms.specs.Slots.{Val, Raw as RawSlot, slots}
use Rattle.heap_terms.specs.Valid.{IsCell, IsRaw, IsFixnum}
use Rattle.heap_terms.specs.Spelling.{word_of}
use Rattle.heap_laws.proofs.Reading.{with_field-kind, with_field-payload}
use Rattle.lisp_heap.specs.LivingWords.{RefersTo, header_words}
use Rattle.lisp_heap.specs.PinsView.{but_last}
use Rattle.lisp_heap.specs.Plan.{IsPlan, Makes}
use Rattle.lisp_heap.specs.declared.plan.Change.{Change}
use Rattle.lisp_heap.specs.declared.plan.Change.TheVariants as changes
use Rattle.lisp_heap.proofs.SlotChanges.{field_slot, field_set, raw_slot, raw_set}

-- what there is at a place of a list, and that there is none from its end on
indexing_in : {A : Type 0} (xs : List A) (i : ℕ) (d : A) (a : NamedHeap) (go : A → Outcome) → i < length xs → indexing xs i d a go ≡ go (get_or xs i d)
indexing_in xs i d a go h = ap (λ (b : Bool). if b then go (get_or xs i d) else refused OutOfRange a) (lt-ltb i (length xs) h)

indexing_out : {A : Type 0} (xs : List A) (i : ℕ) (d : A) (a : NamedHeap) (go : A → Outcome) → length xs ≤ i → indexing xs i d a go ≡ refused OutOfRange a
indexing_out xs i d a go h = ap (λ (b : Bool). if b then go (get_or xs i d) else refused OutOfRange a) (le-ltb i (length xs) h)

-- a plan is right by the outcome
pub planned : (a : NamedHeap) (t : ℕ) (c : Command) (o : Outcome) (answer : Answer) (change : Change) → outcome_of a t c ≡ o → answer ≡ o.answer →
    Makes a t o.heap change → IsPlan a t c answer change
planned a t c o answer change is said makes = record {
  answers = said ∙ ap (λ (x : Outcome). x.answer) (sym is);
  makes = subst (λ (x : Outcome). Makes a t x.heap change) (sym is) makes;
}

-- ---- cells

pub fixed_is : (a : NamedHeap) (t : ℕ) (d : Cell) (n : ℤ) (word : ℕ) → IsCell d → word ≡ fixnum_word n →
    IsPlan a t (commands.Fix d n) answers.Done (changes.InCell d word)
unfolding outcome_of
fixed_is a t d n word ok is = record {
  answers = refl;
  makes = record { value = values.Fix n; is_cell = ok; word_is = is; effect = refl };
}

pub nil_is : (a : NamedHeap) (t : ℕ) (d : Cell) → IsCell d → IsPlan a t (commands.MakeNil d) answers.Done (changes.InCell d nil_word)
unfolding outcome_of
nil_is a t d ok = record {
  answers = refl;
  makes = record { value = values.Nil; is_cell = ok; word_is = refl; effect = refl };
}

pub moved_is : (a : NamedHeap) (t : ℕ) (d c : Cell) (word : ℕ) → IsCell d → word ≡ word_of a.objects (cell_value a t c) →
    IsPlan a t (commands.Move d c) answers.Done (changes.InCell d word)
unfolding outcome_of
moved_is a t d c word ok is = record {
  answers = refl;
  makes = record { value = cell_value a t c; is_cell = ok; word_is = is; effect = refl };
}

pub compared_is : (a : NamedHeap) (t : ℕ) (x y : Cell) (same : Bool) (answer : Answer) → same_value (cell_value a t x) (cell_value a t y) ≡ same →
    answer ≡ (if same then answers.Yes else answers.No) → IsPlan a t (commands.Same x y) answer changes.Nothing
unfolding outcome_of
compared_is a t x y same answer is said = record {
  answers = said ∙ ap (λ (b : Bool). if b then answers.Yes else answers.No) (sym is);
  makes = refl;
}

pub shown_is : (a : NamedHeap) (t : ℕ) (c : Cell) (v : Value) → v ≡ cell_value a t c → IsPlan a t (commands.Show c) (answers.Val v) changes.Nothing
unfolding outcome_of
shown_is a t c v is = record { answers = ap (λ (x : Value). answers.Val x) is; makes = refl }

-- ---- fields

-- what a command comes to that needs fields
abbrev with_fields : NamedHeap → Value → ℕ → (Value → Outcome) → Outcome
with_fields a v i go = needing (fields_at a.objects v) a (λ vs. indexing vs i zero_value a go)

fields_none : (a : NamedHeap) (v : Value) (i : ℕ) (go : Value → Outcome) → fields_at a.objects v ≡ None → with_fields a v i go ≡ refused NotType a
fields_none a v i go none = ap (λ (o : Option (List Value)). needing o a (λ vs. indexing vs i zero_value a go)) none

fields_out : (a : NamedHeap) (v : Value) (i : ℕ) (vs : List Value) (go : Value → Outcome) → fields_at a.objects v ≡ Some vs → length vs ≤ i → with_fields a v i go ≡ refused OutOfRange a
fields_out a v i vs go are out =
    ap (λ (o : Option (List Value)). needing o a (λ vs. indexing vs i zero_value a go)) are ∙ indexing_out vs i zero_value a go out

fields_in : (a : NamedHeap) (v : Value) (i : ℕ) (vs : List Value) (go : Value → Outcome) → fields_at a.objects v ≡ Some vs → i < length vs → with_fields a v i go ≡ go (get_or vs i zero_value)
fields_in a v i vs go are low =
    ap (λ (o : Option (List Value)). needing o a (λ vs. indexing vs i zero_value a go)) are ∙ indexing_in vs i zero_value a go low

-- the fields of the object to which a value refers
pub fields_are : (objects : List (Option Object)) (v : Value) (o : Object) (vs : List Value) → RefersTo objects v o → fields_of o.contents ≡ Some vs →
    fields_at objects v ≡ Some vs
fields_are objects v o vs r are =
    ap (fields_at objects) r.value_is ∙ ap (λ (z : Option Object). option_and_then fields_of (contents_of z)) r.there ∙ are

-- a `get`
get_outcome : (a : NamedHeap) (t : ℕ) (d c : Cell) (i : ℕ) → outcome_of a t (commands.Get d c i) ≡ with_fields a (cell_value a t c) i (λ v. answering (answers.Val v) (with_cell a t d v))
unfolding outcome_of
get_outcome a t d c i = refl

pub got_none : (a : NamedHeap) (t : ℕ) (d c : Cell) (i : ℕ) → fields_at a.objects (cell_value a t c) ≡ None →
    IsPlan a t (commands.Get d c i) (answers.Refused NotType) changes.Nothing
got_none a t d c i none = planned a t (commands.Get d c i) (refused NotType a) (answers.Refused NotType) changes.Nothing
    (get_outcome a t d c i ∙ fields_none a (cell_value a t c) i (λ v. answering (answers.Val v) (with_cell a t d v)) none) refl refl

pub got_out : (a : NamedHeap) (t : ℕ) (d c : Cell) (i : ℕ) (vs : List Value) → fields_at a.objects (cell_value a t c) ≡ Some vs → length vs ≤ i →
    IsPlan a t (commands.Get d c i) (answers.Refused OutOfRange) changes.Nothing
got_out a t d c i vs are out = planned a t (commands.Get d c i) (refused OutOfRange a) (answers.Refused OutOfRange) changes.Nothing
    (get_outcome a t d c i ∙ fields_out a (cell_value a t c) i vs (λ v. answering (answers.Val v) (with_cell a t d v)) are out) refl refl

pub got_is : (a : NamedHeap) (t : ℕ) (d c : Cell) (i word : ℕ) (v : Value) (vs : List Value) → fields_at a.objects (cell_value a t c) ≡ Some vs → i < length vs → IsCell d →
    v ≡ get_or vs i zero_value → word ≡ word_of a.objects (get_or vs i zero_value) →
    IsPlan a t (commands.Get d c i) (answers.Val v) (changes.InCell d word)
got_is a t d c i word v vs are low ok is word_is =
    let field = get_or vs i zero_value in
    planned a t (commands.Get d c i) (answering (answers.Val field) (with_cell a t d field)) (answers.Val v) (changes.InCell d word)
    (get_outcome a t d c i ∙ fields_in a (cell_value a t c) i vs (λ v. answering (answers.Val v) (with_cell a t d v)) are low)
    (ap (λ (x : Value). answers.Val x) is)
    (record { value = field; is_cell = ok; word_is = word_is; effect = refl })

-- a `put`
abbrev put_at : NamedHeap → ℕ → Cell → ℕ → Cell → NamedHeap
put_at a t c i b = record a { objects = with_field_at a.objects (cell_value a t c) i (cell_value a t b) }

put_outcome : (a : NamedHeap) (t : ℕ) (c : Cell) (i : ℕ) (b : Cell) → outcome_of a t (commands.Put c i b) ≡ with_fields a (cell_value a t c) i (λ _. done (put_at a t c i b))
unfolding outcome_of
put_outcome a t c i b = refl

pub put_none : (a : NamedHeap) (t : ℕ) (c : Cell) (i : ℕ) (b : Cell) → fields_at a.objects (cell_value a t c) ≡ None →
    IsPlan a t (commands.Put c i b) (answers.Refused NotType) changes.Nothing
put_none a t c i b none = planned a t (commands.Put c i b) (refused NotType a) (answers.Refused NotType) changes.Nothing
    (put_outcome a t c i b ∙ fields_none a (cell_value a t c) i (λ _. done (put_at a t c i b)) none) refl refl

pub put_out : (a : NamedHeap) (t : ℕ) (c : Cell) (i : ℕ) (b : Cell) (vs : List Value) → fields_at a.objects (cell_value a t c) ≡ Some vs → length vs ≤ i →
    IsPlan a t (commands.Put c i b) (answers.Refused OutOfRange) changes.Nothing
put_out a t c i b vs are out = planned a t (commands.Put c i b) (refused OutOfRange a) (answers.Refused OutOfRange) changes.Nothing
    (put_outcome a t c i b ∙ fields_out a (cell_value a t c) i vs (λ _. done (put_at a t c i b)) are out) refl refl

-- an object to which a value refers holds something else
changed_heap : (a : NamedHeap) (v : Value) (o : Object) (change : Contents → Contents) → (r : RefersTo a.objects v o) →
    record a { objects = changed_at a.objects v change } ≡ record a { objects = set a.objects r.name (Some (record o { contents = change o.contents })) }
changed_heap a v o change r =
    ap (λ (z : Value). record a { objects = changed_at a.objects z change }) r.value_is
    ∙ ap (λ (z : Option Object). record a { objects = set a.objects r.name (refilled z change) }) r.there

pub put_is : (a : NamedHeap) (t : ℕ) (c : Cell) (i : ℕ) (b : Cell) (index word : ℕ) (o : Object) (vs : List Value) → RefersTo a.objects (cell_value a t c) o →
    fields_of o.contents ≡ Some vs → i < length vs → index ≡ o.place + (header_words (kind_of o.contents) + i) → word ≡ word_of a.objects (cell_value a t b) →
    IsPlan a t (commands.Put c i b) answers.Done (changes.InSpace index word)
put_is a t c i b index word o vs r are low at word_is =
    let value = cell_value a t b in
    planned a t (commands.Put c i b) (done (put_at a t c i b)) answers.Done (changes.InSpace index word)
    (put_outcome a t c i b ∙ fields_in a (cell_value a t c) i vs (λ _. done (put_at a t c i b)) (fields_are a.objects (cell_value a t c) o vs r are) low) refl
    (record {
      name = r.name;
      object = o;
      there = r.there;
      contents = with_field o.contents i value;
      kind = with_field-kind o.contents i value;
      payload = with_field-payload o.contents i value;
      i = header_words (kind_of o.contents) + i;
      slot = Val value;
      within = slice_get_within (slots o.contents) (header_words (kind_of o.contents) + i) (Val (get_or vs i zero_value)) (field_slot o.contents vs i are low);
      slots_are = field_set o.contents vs i value are low;
      at_index = at;
      word_is = word_is;
      effect = changed_heap a (cell_value a t c) o (λ k. with_field k i value) r;
    })

-- ---- raw cells

pub addressed_is : (a : NamedHeap) (t : ℕ) (r : Raw) (c : Cell) (word : ℕ) → IsRaw r → word ≡ word_of a.objects (cell_value a t c) →
    IsPlan a t (commands.Addr r c) (answers.Word word) (changes.InRaw r word)
unfolding outcome_of
addressed_is a t r c word ok is = record {
  answers = ap (λ (x : ℕ). answers.Word x) is;
  makes = record { is_raw = ok; effect = ap (with_raw a t r) (sym is) };
}

pub set_is : (a : NamedHeap) (t : ℕ) (r : Raw) (word : ℕ) → IsRaw r → IsPlan a t (commands.SetRaw r word) answers.Done (changes.InRaw r word)
unfolding outcome_of
set_is a t r word ok = record { answers = refl; makes = record { is_raw = ok; effect = refl } }

pub added_is : (a : NamedHeap) (t : ℕ) (r : Raw) (k : ℤ) (word : ℕ) → IsRaw r → word ≡ word_plus (raw_value a t r) k →
    IsPlan a t (commands.AddRaw r k) (answers.Word word) (changes.InRaw r word)
unfolding outcome_of
added_is a t r k word ok is = record {
  answers = ap (λ (x : ℕ). answers.Word x) is;
  makes = record { is_raw = ok; effect = ap (with_raw a t r) (sym is) };
}

-- ---- raw words

-- what a command comes to that needs raw words
abbrev with_words : NamedHeap → Value → ℕ → (List ℕ → ℕ → Outcome) → Outcome
with_words a v i go = needing (raws_at a.objects v) a (λ ws. indexing ws i 0 a (go ws))

words_none : (a : NamedHeap) (v : Value) (i : ℕ) (go : List ℕ → ℕ → Outcome) → raws_at a.objects v ≡ None → with_words a v i go ≡ refused NotType a
words_none a v i go none = ap (λ (o : Option (List ℕ)). needing o a (λ ws. indexing ws i 0 a (go ws))) none

words_out : (a : NamedHeap) (v : Value) (i : ℕ) (ws : List ℕ) (go : List ℕ → ℕ → Outcome) → raws_at a.objects v ≡ Some ws → length ws ≤ i → with_words a v i go ≡ refused OutOfRange a
words_out a v i ws go are out =
    ap (λ (o : Option (List ℕ)). needing o a (λ ws. indexing ws i 0 a (go ws))) are ∙ indexing_out ws i 0 a (go ws) out

words_in : (a : NamedHeap) (v : Value) (i : ℕ) (ws : List ℕ) (go : List ℕ → ℕ → Outcome) → raws_at a.objects v ≡ Some ws → i < length ws → with_words a v i go ≡ go ws (get_or ws i 0)
words_in a v i ws go are low =
    ap (λ (o : Option (List ℕ)). needing o a (λ ws. indexing ws i 0 a (go ws))) are ∙ indexing_in ws i 0 a (go ws) low

-- the raw words of the object to which a value refers
pub raws_are : (objects : List (Option Object)) (v : Value) (o : Object) (ws : List ℕ) → RefersTo objects v o → raws_of o.contents ≡ Some ws →
    raws_at objects v ≡ Some ws
raws_are objects v o ws r are =
    ap (raws_at objects) r.value_is ∙ ap (λ (z : Option Object). option_and_then raws_of (contents_of z)) r.there ∙ are

-- a `rawget`
rawget_outcome : (a : NamedHeap) (t : ℕ) (r : Raw) (c : Cell) (i : ℕ) → outcome_of a t (commands.RawGet r c i) ≡ with_words a (cell_value a t c) i (λ ws word. taking a t r word)
unfolding outcome_of
rawget_outcome a t r c i = refl

pub raw_got_none : (a : NamedHeap) (t : ℕ) (r : Raw) (c : Cell) (i : ℕ) → raws_at a.objects (cell_value a t c) ≡ None →
    IsPlan a t (commands.RawGet r c i) (answers.Refused NotType) changes.Nothing
raw_got_none a t r c i none = planned a t (commands.RawGet r c i) (refused NotType a) (answers.Refused NotType) changes.Nothing
    (rawget_outcome a t r c i ∙ words_none a (cell_value a t c) i (λ ws word. taking a t r word) none) refl refl

pub raw_got_out : (a : NamedHeap) (t : ℕ) (r : Raw) (c : Cell) (i : ℕ) (ws : List ℕ) → raws_at a.objects (cell_value a t c) ≡ Some ws → length ws ≤ i →
    IsPlan a t (commands.RawGet r c i) (answers.Refused OutOfRange) changes.Nothing
raw_got_out a t r c i ws are out = planned a t (commands.RawGet r c i) (refused OutOfRange a) (answers.Refused OutOfRange) changes.Nothing
    (rawget_outcome a t r c i ∙ words_out a (cell_value a t c) i ws (λ ws word. taking a t r word) are out) refl refl

pub raw_got_is : (a : NamedHeap) (t : ℕ) (r : Raw) (c : Cell) (i word : ℕ) (ws : List ℕ) → raws_at a.objects (cell_value a t c) ≡ Some ws → i < length ws → IsRaw r →
    word ≡ get_or ws i 0 → IsPlan a t (commands.RawGet r c i) (answers.Word word) (changes.InRaw r word)
raw_got_is a t r c i word ws are low ok is =
    planned a t (commands.RawGet r c i) (taking a t r word) (answers.Word word) (changes.InRaw r word)
    (rawget_outcome a t r c i ∙ words_in a (cell_value a t c) i ws (λ ws word. taking a t r word) are low ∙ ap (taking a t r) (sym is)) refl
    (record { is_raw = ok; effect = refl })

-- a `rawput`
abbrev rawput_at : NamedHeap → ℕ → Cell → ℕ → Raw → List ℕ → NamedHeap
rawput_at a t c i r ws = record a { objects = changed_at a.objects (cell_value a t c) (λ k. with_raws k (set ws i (raw_value a t r))) }

rawput_outcome : (a : NamedHeap) (t : ℕ) (c : Cell) (i : ℕ) (r : Raw) → outcome_of a t (commands.RawPut c i r) ≡ with_words a (cell_value a t c) i (λ ws _. done (rawput_at a t c i r ws))
unfolding outcome_of
rawput_outcome a t c i r = refl

pub raw_put_none : (a : NamedHeap) (t : ℕ) (c : Cell) (i : ℕ) (r : Raw) → raws_at a.objects (cell_value a t c) ≡ None →
    IsPlan a t (commands.RawPut c i r) (answers.Refused NotType) changes.Nothing
raw_put_none a t c i r none = planned a t (commands.RawPut c i r) (refused NotType a) (answers.Refused NotType) changes.Nothing
    (rawput_outcome a t c i r ∙ words_none a (cell_value a t c) i (λ ws _. done (rawput_at a t c i r ws)) none) refl refl

pub raw_put_out : (a : NamedHeap) (t : ℕ) (c : Cell) (i : ℕ) (r : Raw) (ws : List ℕ) → raws_at a.objects (cell_value a t c) ≡ Some ws → length ws ≤ i →
    IsPlan a t (commands.RawPut c i r) (answers.Refused OutOfRange) changes.Nothing
raw_put_out a t c i r ws are out = planned a t (commands.RawPut c i r) (refused OutOfRange a) (answers.Refused OutOfRange) changes.Nothing
    (rawput_outcome a t c i r ∙ words_out a (cell_value a t c) i ws (λ ws _. done (rawput_at a t c i r ws)) are out) refl refl

pub raw_put_is : (a : NamedHeap) (t : ℕ) (c : Cell) (i : ℕ) (r : Raw) (index word : ℕ) (o : Object) (ws : List ℕ) → RefersTo a.objects (cell_value a t c) o →
    o.contents ≡ WordsOf ws → i < length ws → index ≡ o.place + (1 + i) → word ≡ raw_value a t r →
    IsPlan a t (commands.RawPut c i r) answers.Done (changes.InSpace index word)
raw_put_is a t c i r index word o ws refers is low at word_is =
    let new = set ws i (raw_value a t r) in
    let are : raws_of o.contents ≡ Some ws = ap raws_of is in
    planned a t (commands.RawPut c i r) (done (rawput_at a t c i r ws)) answers.Done (changes.InSpace index word)
    (rawput_outcome a t c i r ∙ words_in a (cell_value a t c) i ws (λ ws _. done (rawput_at a t c i r ws)) (raws_are a.objects (cell_value a t c) o ws refers are) low) refl
    (record {
      name = refers.name;
      object = o;
      there = refers.there;
      contents = WordsOf new;
      kind = ap (λ (k : Contents). kind_of k) (sym is);
      payload = length-set ws i (raw_value a t r) ∙ ap (λ (k : Contents). payload_of k) (sym is);
      i = 1 + i;
      slot = RawSlot (raw_value a t r);
      within = subst (λ (k : Contents). 1 + i < length (slots k)) (sym is) (slice_get_within (slots (WordsOf ws)) (1 + i) (RawSlot (get_or ws i 0)) (raw_slot ws i low));
      slots_are = raw_set ws i (raw_value a t r) low ∙ ap (λ (k : Contents). set (slots k) (1 + i) (RawSlot (raw_value a t r))) (sym is);
      at_index = at;
      word_is = word_is;
      effect = changed_heap a (cell_value a t c) o (λ k. with_raws k new) refers
          ∙ ap (λ (k : Contents). record a { objects = set a.objects refers.name (Some (record o { contents = with_raws k new })) }) is;
    })

-- ---- inhibit counts

pub inhibited_is : (a : NamedHeap) (t count : ℕ) → count ≡ (thread_at a t).inhibits → IsPlan a t commands.Inhibit answers.Done (changes.Inhibits (count + 1))
unfolding outcome_of
inhibited_is a t count is = record {
  answers = refl;
  makes = ap (λ (n : ℕ). with_thread a t (record (thread_at a t) { inhibits = n + 1 })) (sym is);
}

-- what `gcok` comes to, by whether the count is 0
abbrev allow_by : NamedHeap → ℕ → Bool → Outcome
allow_by a t none = if none then refused Nothing a else done (with_thread a t (record (thread_at a t) { inhibits = (thread_at a t).inhibits - 1 }))

pub allowed_none : (a : NamedHeap) (t : ℕ) → (thread_at a t).inhibits ≡ 0 → IsPlan a t commands.Allow (answers.Refused Nothing) changes.Nothing
unfolding outcome_of
allowed_none a t none =
    let test : eqb (thread_at a t).inhibits 0 ≡ true = eq-eqb (thread_at a t).inhibits 0 none in
    planned a t commands.Allow (refused Nothing a) (answers.Refused Nothing) changes.Nothing (ap (allow_by a t) test) refl refl

pub allowed_is : (a : NamedHeap) (t count : ℕ) → count ≡ (thread_at a t).inhibits → (count ≡ 0 → ⊥) → IsPlan a t commands.Allow answers.Done (changes.Inhibits (count - 1))
unfolding outcome_of
allowed_is a t count is some =
    let other : eqb (thread_at a t).inhibits 0 ≡ false = ne_eqb (thread_at a t).inhibits 0 (λ e. some (is ∙ e)) in
    planned a t commands.Allow (done (with_thread a t (record (thread_at a t) { inhibits = (thread_at a t).inhibits - 1 }))) answers.Done (changes.Inhibits (count - 1))
    (ap (allow_by a t) other) refl (ap (λ (n : ℕ). with_thread a t (record (thread_at a t) { inhibits = n - 1 })) (sym is))

-- ---- pins

pin_outcome : (a : NamedHeap) (t : ℕ) (c : Cell) → outcome_of a t (commands.Pin c)
    ≡ (if ltb (length (thread_at a t).pins) 32 then done (with_pins a t ((thread_at a t).pins ++ word_of a.objects (cell_value a t c) ∷ [])) else refused PinsFull a)
unfolding outcome_of
pin_outcome a t c = refl

pub pinned_none : (a : NamedHeap) (t : ℕ) (c : Cell) (pins : List ℕ) → pins ≡ (thread_at a t).pins → 32 ≤ length pins →
    IsPlan a t (commands.Pin c) (answers.Refused PinsFull) changes.Nothing
pinned_none a t c pins is full =
    let test : ltb (length (thread_at a t).pins) 32 ≡ false = subst (λ (ws : List ℕ). ltb (length ws) 32 ≡ false) is (le-ltb (length pins) 32 full) in
    planned a t (commands.Pin c) (refused PinsFull a) (answers.Refused PinsFull) changes.Nothing
    (pin_outcome a t c ∙ ap (λ (b : Bool). if b then done (with_pins a t ((thread_at a t).pins ++ word_of a.objects (cell_value a t c) ∷ [])) else refused PinsFull a) test)
    refl refl

pub pinned_is : (a : NamedHeap) (t : ℕ) (c : Cell) (word : ℕ) (pins : List ℕ) → pins ≡ (thread_at a t).pins → length pins < 32 → word ≡ word_of a.objects (cell_value a t c) →
    IsPlan a t (commands.Pin c) answers.Done (changes.PushPin word)
pinned_is a t c word pins is room word_is =
    let new = with_pins a t ((thread_at a t).pins ++ word_of a.objects (cell_value a t c) ∷ []) in
    let low : length (thread_at a t).pins < 32 = subst (λ (ws : List ℕ). length ws < 32) is room in
    planned a t (commands.Pin c) (done new) answers.Done (changes.PushPin word)
    (pin_outcome a t c ∙ ap (λ (b : Bool). if b then done new else refused PinsFull a) (lt-ltb (length (thread_at a t).pins) 32 low))
    refl
    (record { room = low; effect = ap (λ (x : ℕ). with_pins a t ((thread_at a t).pins ++ x ∷ [])) (sym word_is) })

unpin_outcome : (a : NamedHeap) (t : ℕ) → outcome_of a t commands.Unpin
    ≡ (if eqb (length (thread_at a t).pins) 0 then refused Nothing a else done (with_pins a t (but_last (thread_at a t).pins)))
unfolding outcome_of
unpin_outcome a t = refl

pub unpinned_none : (a : NamedHeap) (t : ℕ) (pins : List ℕ) → pins ≡ (thread_at a t).pins → length pins ≡ 0 →
    IsPlan a t commands.Unpin (answers.Refused Nothing) changes.Nothing
unpinned_none a t pins is none =
    let test : eqb (length (thread_at a t).pins) 0 ≡ true = subst (λ (ws : List ℕ). eqb (length ws) 0 ≡ true) is (eq-eqb (length pins) 0 none) in
    planned a t commands.Unpin (refused Nothing a) (answers.Refused Nothing) changes.Nothing
    (unpin_outcome a t ∙ ap (λ (b : Bool). if b then refused Nothing a else done (with_pins a t (but_last (thread_at a t).pins))) test) refl refl

pub unpinned_is : (a : NamedHeap) (t : ℕ) (pins : List ℕ) → pins ≡ (thread_at a t).pins → (length pins ≡ 0 → ⊥) →
    IsPlan a t commands.Unpin answers.Done changes.PopPin
unpinned_is a t pins is some =
    let test : eqb (length (thread_at a t).pins) 0 ≡ false = subst (λ (ws : List ℕ). eqb (length ws) 0 ≡ false) is (ne_eqb (length pins) 0 some) in
    planned a t commands.Unpin (done (with_pins a t (but_last (thread_at a t).pins))) answers.Done changes.PopPin
    (unpin_outcome a t ∙ ap (λ (b : Bool). if b then refused Nothing a else done (with_pins a t (but_last (thread_at a t).pins))) test) refl refl

-- ---- owed collections

pub asked_is : (a : NamedHeap) (t g last : ℕ) (owed : Option ℕ) → owed ≡ (thread_at a t).owed → owing owed g ≡ Some last →
    IsPlan a t (commands.Collect g) answers.Done (changes.Owes last)
unfolding outcome_of
asked_is a t g last owed is greater = record {
  answers = refl;
  makes = ap (λ (o : Option ℕ). with_thread a t (record (thread_at a t) { owed = owing o g })) (sym is)
      ∙ ap (λ (o : Option ℕ). with_thread a t (record (thread_at a t) { owed = o })) greater;
}

-- a fixnum is a signed number of 64 bits
pub fixnum_fits : (n : ℤ) → IsFixnum n → FitsSigned w64 n
fixnum_fits (pos n) h = record { sfits = omega (arith, h) }
fixnum_fits (negsuc n) h = record { sfits = omega (arith, h) }
