-- Tables in the words of a sound World: the words of their pairs, and what a change of them makes of the words.
use Rattle.std.proofs.Common.{◌≡◌, ◌≢◌, ℕ, ◌+◌, ◌*◌, ◌<◌, ◌≤◌, List, length, map, Option, Some, inl, inr, refl, sym, ◌∙◌, ap, subst, arith, true, false}
use Rattle.std.proofs.lemmas.Bool.{cases_lt}
use Rattle.std.proofs.lemmas.List.{get_or-map, length-map}
use Rattle.std.specs.Prelude.{slice_index}
use Rattle.heap_terms.specs.declared.cells.Value.{Value}
use Rattle.heap_terms.specs.declared.cells.Value.TheVariants.{Unbound}
use Rattle.heap_terms.specs.declared.kinds.Kind.TheVariants as kinds
use Rattle.heap_terms.specs.declared.kinds.Weakness.{Weakness}
use Rattle.heap_terms.specs.Heap.{object_at, zero_value}
use Rattle.heap_terms.specs.Layout.{header_of, weakness_number, size_of}
use Rattle.heap_terms.specs.Living.{HoldsLiving, IsShaped}
use Rattle.heap_terms.specs.Objects.{Object, Contents, ConsOf, VectorOf, InstanceOf, ClosureOf, WordsOf, WeakTo, TableOf, kind_of, payload_of, words_of_object}
use Rattle.heap_terms.specs.Pairs.{is_pair_of}
use Rattle.heap_terms.specs.Slots.{Slot, Raw, Side, Kept, slot_at}
use Rattle.heap_terms.specs.Stands.{StandsFor, KeptStand}
use Rattle.heap_terms.specs.WellFormed.{IsLiving}
use Rattle.heap_terms.specs.Spelling.{word_of}
use Rattle.heap_laws.proofs.AtPlaces.{IfSome-at, IfSome-from}
use Rattle.heap_laws.proofs.Reading.{header_leads}
use Rattle.eq_index.specs.Answers.{HasNo, Finds}
use Rattle.eq_index.specs.Tables.{PairWords, no_pair, pair_at, IsTable, HasTable, Becomes}
use Rattle.lisp_heap.specs.WorldSound.{IsSound}
use Rattle.lisp_heap.specs.declared.world.World.TheInside.{Inside}
use Rattle.lisp_heap.proofs.KeyedPairs.{IsOnlyAt, IsNowhere}
use Rattle.lisp_heap.proofs.ObjectChanges.{ChangesObject}
use Rattle.lisp_heap.proofs.Referring.{ObjectAt, object_known, slot_word, same_words, told_in}
use Rattle.lisp_heap.proofs.Soundness.{heap, well_formed}
use Rattle.lisp_heap.proofs.TableSlots.{pair_of, slot_key, slot_value, slot_unbound, slot_kept, each_slot}

-- the words of a pair
abbrev pub in_words : List (Option Object) → Value × Value → PairWords
in_words objects pair = record { key = word_of objects pair.0; value = word_of objects pair.1 }

-- what an object of the kind of tables holds
pub record IsTableOf (k : Contents) : Type 0 where
  pub w : Weakness
  pub b : ℕ
  pub pairs : List (Value × Value)
  pub is : k ≡ TableOf w b pairs

pub table_contents : (k : Contents) → kind_of k ≡ kinds.Table → IsTableOf k
table_contents (ConsOf a b) e = absurd (let never : kinds.Cons ≡ kinds.Table = e in cc)
table_contents (VectorOf vs) e = absurd (let never : kinds.Vector ≡ kinds.Table = e in cc)
table_contents (InstanceOf vs) e = absurd (let never : kinds.Instance ≡ kinds.Table = e in cc)
table_contents (ClosureOf vs) e = absurd (let never : kinds.Closure ≡ kinds.Table = e in cc)
table_contents (WordsOf ws) e = absurd (let never : kinds.Words ≡ kinds.Table = e in cc)
table_contents (WeakTo v) e = absurd (let never : kinds.Weak ≡ kinds.Table = e in cc)
table_contents (TableOf w b pairs) e = record { w = w; b = b; pairs = pairs; is = refl }

pub pair_words : (objects : List (Option Object)) (pairs : List (Value × Value)) (k : ℕ) → k < length pairs →
    pair_at (map (in_words objects) pairs) k ≡ in_words objects (pair_of pairs k)
pair_words objects pairs k l = get_or-map (in_words objects) pairs k (zero_value, zero_value) no_pair l

module _ (s : Inside) (h : IsSound s) (name : ℕ) (o : Object) (w : Weakness) (b : ℕ) (pairs : List (Value × Value))
    (there : object_at (heap s).objects name ≡ Some o) (is : o.contents ≡ TableOf w b pairs) where
  abbrev known : ObjectAt s name
  known = object_known s h name o there

  abbrev objects : List (Option Object)
  objects = (heap s).objects

  abbrev words_of_pairs : List PairWords
  words_of_pairs = map (in_words objects) pairs

  pub shape : IsShaped (TableOf w b pairs)
  shape = subst IsShaped is known.shape

  living : HoldsLiving objects (TableOf w b pairs)
  living = subst (HoldsLiving objects) is ((well_formed s h).sound.objects name o there).contents

  pub key_living : (k : ℕ) → k < length pairs → IsLiving objects (pair_of pairs k).0
  key_living k l = subst (IsLiving objects) (get_or-map (λ (pair : Value × Value). pair.0) pairs k (zero_value, zero_value) zero_value l) (living.0 k)

  pub value_living : (k : ℕ) → k < length pairs → IsLiving objects (pair_of pairs k).1
  value_living k l = subst (IsLiving objects) (get_or-map (λ (pair : Value × Value). pair.1) pairs k (zero_value, zero_value) zero_value l) (living.1 k)

  few : length pairs ≤ b
  few = shape.2

  as_table : (i : ℕ) (slot : Slot) → slot_at (TableOf w b pairs) i ≡ Some slot → slot_at o.contents i ≡ Some slot
  as_table i slot e = ap (λ (k : Contents). slot_at k i) is ∙ e

  at_slot : (i : ℕ) (slot : Slot) → slot_at (TableOf w b pairs) i ≡ Some slot → StandsFor objects slot (slice_index s.space (o.place + i))
  at_slot i slot e = slot_word s h name known i slot (as_table i slot e)

  at_kept : (i : ℕ) → slot_at (TableOf w b pairs) i ≡ Some Kept → slice_index s.space (o.place + i) ≡ 0
  at_kept i e = IfSome-at (λ (q : Object). KeptStand s.space q.place q.contents) (object_at objects name) o there (h.holds.words.kept name) i (as_table i Kept e)

  pub table_size : words_of_object o ≡ 4 + 4 * b
  table_size = (let size : words_of_object o ≡ size_of kinds.Table (3 + 4 * b) = ap (λ (k : Contents). size_of (kind_of k) (payload_of k)) is in omega arith)

  at : (i j : ℕ) → i ≡ j → slice_index s.space i ≡ slice_index s.space j
  at i j e = ap (λ (n : ℕ). slice_index s.space n) e

  many : length words_of_pairs ≡ length pairs
  many = length-map pairs (in_words objects)

  keys_once : (i k : ℕ) → i < length pairs → k < length pairs → word_of objects (pair_of pairs i).0 ≡ word_of objects (pair_of pairs k).0 → i ≡ k
  keys_once i k li lk e =
      let same = same_words s h (pair_of pairs i).0 (pair_of pairs k).0 (key_living i li) (key_living k lk) e in
      elim (cases_lt i k) [
        | inl low ↦ absurd (shape.3 i k (zero_value, zero_value) low lk same)
        | inr from ↦ elim (cases_lt k i) [
          | inl high ↦ absurd (shape.3 k i (zero_value, zero_value) high li (sym same))
          | inr other ↦ omega arith
        ]
      ]

  -- the table as its look-up sees it
  pub here : IsTable s.space o.place b words_of_pairs
  here = record {
    least = shape.0;
    most = shape.1;
    within = omega (arith, known.inside, table_size);
    low = omega (arith, known.inside, table_size, h.holds.words.long, (well_formed s h).pages_length, h.valid.pages_most);
    header = at o.place (o.place + 0) (omega arith) ∙ at_slot 0 (Raw (header_of kinds.Table (3 + 4 * b))) (header_leads (TableOf w b pairs) few (λ never. cc));
    flag = at_kept 2 refl;
    count = at_slot 3 (Raw (2 * length pairs)) refl ∙ ap (λ (n : ℕ). 2 * n) (sym many);
    room = omega (arith, few, many);
    keys = λ k l. (let low : k < length pairs = omega (arith, many) in
        at (o.place + 4 + 2 * k) (o.place + (4 + 2 * k)) (omega arith) ∙ at_slot (4 + 2 * k) (Side (pair_of pairs k).0) (slot_key w b pairs k low)
        ∙ ap (λ (p : PairWords). p.key) (sym (pair_words objects pairs k low)));
    values = λ k l. (let low : k < length pairs = omega (arith, many) in
        at (o.place + 5 + 2 * k) (o.place + (5 + 2 * k)) (omega arith) ∙ at_slot (5 + 2 * k) (Side (pair_of pairs k).1) (slot_value w b pairs k low)
        ∙ ap (λ (p : PairWords). p.value) (sym (pair_words objects pairs k low)));
    unbound = λ i from below. at (o.place + 4 + i) (o.place + (4 + i)) (omega arith)
        ∙ at_slot (4 + i) (Side Unbound) (slot_unbound w b pairs few i (omega (arith, many)) below);
    kept = λ i below. at (o.place + 4 + 2 * b + i) (o.place + (4 + 2 * b + i)) (omega arith) ∙ at_kept (4 + 2 * b + i) (slot_kept w b pairs few i below);
    once = λ i k li lk e. (let low : i < length pairs = omega (arith, many) in let below : k < length pairs = omega (arith, many) in
        keys_once i k low below (ap (λ (p : PairWords). p.key) (sym (pair_words objects pairs i low)) ∙ e ∙ ap (λ (p : PairWords). p.key) (pair_words objects pairs k below)));
  }

  pub has : HasTable s.space o.place
  has = record { b = b; pairs = words_of_pairs; is = here }

  -- a key is found by its word
  told : (k : Value) → IsLiving objects k → (i : ℕ) → i < length pairs →
      (word_of objects (pair_of pairs i).0 ≡ word_of objects k → is_pair_of k (pair_of pairs i) ≡ true)
      × (word_of objects (pair_of pairs i).0 ≢ word_of objects k → is_pair_of k (pair_of pairs i) ≡ false)
  told k lives i l = told_in s h (pair_of pairs i).0 k (key_living i l) lives

  pub found_at_key : (k : Value) (slot : ℕ) → IsLiving objects k → Finds words_of_pairs (word_of objects k) (Some slot) → IsOnlyAt pairs k slot
  found_at_key k slot lives found =
      let low : slot < length pairs = omega (arith, found.0, many) in
      let key : word_of objects (pair_of pairs slot).0 ≡ word_of objects k = ap (λ (p : PairWords). p.key) (sym (pair_words objects pairs slot low)) ∙ found.1 in
      record {
        low = low;
        here = (told k lives slot low).0 key;
        others = λ i l n. (told k lives i l).1 (λ e. n (keys_once i slot l low (e ∙ sym key)));
      }

  pub found_nowhere : (k : Value) → IsLiving objects k → HasNo words_of_pairs (word_of objects k) → IsNowhere pairs k
  found_nowhere k lives none = λ i l. (told k lives i l).1 (λ e. none i (omega (arith, many)) (ap (λ (p : PairWords). p.key) (pair_words objects pairs i l) ∙ e))

  -- the table with other pairs
  pub changes : (new : List ℕ) (pairs_now : List (Value × Value)) → length pairs_now ≤ b → Becomes s.space new o.place b (map (in_words objects) pairs_now) →
      ChangesObject (heap s) s.space new name o (TableOf w b pairs_now)
  changes new pairs_now few_now m =
      let t = m.is in
      let many_now : length (map (in_words objects) pairs_now) ≡ length pairs_now = length-map pairs_now (in_words objects) in
      let at_new : (i j : ℕ) → i ≡ j → slice_index new i ≡ slice_index new j = λ i j e. ap (λ (n : ℕ). slice_index new n) e in
      let weakness : slice_index new (o.place + 1) ≡ 2 * weakness_number w = m.weakness ∙ at_slot 1 (Raw (2 * weakness_number w)) refl in
      record {
        there = there;
        kind = ap (λ (k : Contents). kind_of k) (sym is);
        payload = ap (λ (k : Contents). payload_of k) (sym is);
        long = m.elsewhere.long;
        elsewhere = λ i out. m.elsewhere.same i (elim out [ inl low ↦ inl low | inr past ↦ inr (omega (arith, table_size)) ]);
        spelled = λ i. IfSome-from (λ (slot : Slot). StandsFor objects slot (slice_index new (o.place + i))) (slot_at (TableOf w b pairs_now) i) (λ slot e.
            each_slot w b pairs_now few_now (λ (i : ℕ) (slot : Slot). StandsFor objects slot (slice_index new (o.place + i)))
            (at_new (o.place + 0) o.place (omega arith) ∙ t.header) weakness tt (t.count ∙ ap (λ (n : ℕ). 2 * n) many_now)
            (λ k l. at_new (o.place + (4 + 2 * k)) (o.place + 4 + 2 * k) (omega arith) ∙ t.keys k (omega (arith, many_now)) ∙ ap (λ (p : PairWords). p.key) (pair_words objects pairs_now k l))
            (λ k l. at_new (o.place + (5 + 2 * k)) (o.place + 5 + 2 * k) (omega arith) ∙ t.values k (omega (arith, many_now)) ∙ ap (λ (p : PairWords). p.value) (pair_words objects pairs_now k l))
            (λ i from below. at_new (o.place + (4 + i)) (o.place + 4 + i) (omega arith) ∙ t.unbound i (omega (arith, many_now)) below)
            (λ i below. tt)
            i slot e);
        kept = λ i e. each_slot w b pairs_now few_now (λ (i : ℕ) (slot : Slot). slot ≡ Kept → slice_index new (o.place + i) ≡ 0)
            (λ never. cc) (λ never. cc) (λ _. t.flag) (λ never. cc) (λ k l never. cc) (λ k l never. cc) (λ i from below never. cc)
            (λ i below _. at_new (o.place + (4 + 2 * b + i)) (o.place + 4 + 2 * b + i) (omega arith) ∙ t.kept i below)
            i Kept e refl;
      }
