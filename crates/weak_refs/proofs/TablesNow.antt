-- A table as the moves of the pass left it, and one whose words stand for what survives of it.
use Rattle.std.proofs.Common.{◌≡◌, ℕ, ◌+◌, ◌*◌, ◌/◌, ◌<◌, ◌≤◌, List, length, Option, Some, None, refl, sym, ◌∙◌, ap, subst, arith}
use Rattle.std.proofs.lemmas.List.{get_or-map}
use Rattle.std.specs.Prelude.{IfSome, slice_index}
use Rattle.heap_terms.specs.declared.cells.Value.{Value}
use Rattle.heap_terms.specs.declared.cells.Value.TheVariants.{Fix, Nil, Unbound, Ref}
use Rattle.heap_terms.specs.declared.kinds.Kind.TheVariants as kinds
use Rattle.heap_terms.specs.declared.kinds.Weakness.{Weakness}
use Rattle.heap_terms.specs.Heap.{NamedHeap, zero_value}
use Rattle.heap_terms.specs.Layout.{header_of, weakness_number}
use Rattle.heap_terms.specs.Living.{IsLiving, IsLivingOrUnbound, HoldsLiving, IsShaped}
use Rattle.heap_terms.specs.Objects.{Object, Contents, ConsOf, VectorOf, InstanceOf, ClosureOf, WordsOf, WeakTo, TableOf, kind_of, payload_of, words_of_object}
use Rattle.heap_terms.specs.Slots.{Slot, Raw, Side, Kept, slot_at}
use Rattle.heap_terms.specs.Stands.{StandsFor, SlotsStand, KeptStand}
use Rattle.heap_terms.specs.Spelling.{word_of}
use Rattle.copy_space.specs.Midway.{IsPlacedSoFar}
use Rattle.copy_space.specs.Moved.{new_of}
use Rattle.copy_space.specs.Settled.{word_before}
use Rattle.copy_space.specs.State.{CopyState}
use Rattle.copy_space.proofs.Places.{now_inside}
use Rattle.copy_space.proofs.Referents.{ms, its}
use Rattle.weak_refs.specs.Rewriting.{StandsAsLeft, IsWeakStart}
use Rattle.weak_refs.specs.Tables.{TableWords, IsTableNow, pair_at}
use Rattle.weak_refs.proofs.TableSlots.{slot-key, slot-value, slot-unbound, slot-kept, each-slot}

pub record IsTableOf (k : Contents) : Type 0 where
  pub w : Weakness
  pub b : ℕ
  pub pairs : List (Value × Value)
  pub is : k ≡ TableOf w b pairs

pub table_contents : (k : Contents) → kind_of k ≡ kinds.Table → IsTableOf k
table_contents (ConsOf a b) e = absurd (let never : kinds.Cons ≡ kinds.Table = e in cc)
table_contents (VectorOf vs) e = absurd (let never : kinds.Vector ≡ kinds.Table = e in cc)
table_contents (InstanceOf vs) e = absurd (let never : kinds.Instance ≡ kinds.Table = e in cc)
table_contents (ClosureOf vs) e = absurd (let never : kinds.Closure ≡ kinds.Table = e in cc)
table_contents (WordsOf ws) e = absurd (let never : kinds.Words ≡ kinds.Table = e in cc)
table_contents (WeakTo v) e = absurd (let never : kinds.Weak ≡ kinds.Table = e in cc)
table_contents (TableOf w b pairs) e = record { w = w; b = b; pairs = pairs; is = refl }

-- the words of a table, from its slots
pub words-of : (a : NamedHeap) (s : CopyState) (start : ℕ) (o : Object) (w : Weakness) (b : ℕ) (pairs : List (Value × Value)) → IsShaped o.contents → o.contents ≡ TableOf w b pairs →
    new_of s.moves o.place ≡ start → slice_index s.words start ≡ header_of (kind_of o.contents) (payload_of o.contents) → StandsAsLeft a s o → TableWords (word_before a) s.words start w b pairs
words-of a s start o w b pairs shaped is here first stands = record {
  header = first ∙ ap (λ (k : Contents). header_of (kind_of k) (payload_of k)) is;
  weakness = at 1 ∙ stands.slots 1 (Raw (2 * weakness_number w)) (as_table 1 refl);
  flag = at 2 ∙ stands.kept 2 (as_table 2 refl);
  count = at 3 ∙ stands.slots 3 (Raw (2 * length pairs)) (as_table 3 refl);
  keys = λ k l. (let up : start + 4 + 2 * k ≡ start + (4 + 2 * k) = omega arith in
      ap (λ (i : ℕ). slice_index s.words i) up ∙ at (4 + 2 * k) ∙ stands.slots (4 + 2 * k) (Side (pair_at pairs k).0) (as_table (4 + 2 * k) (slot-key w b pairs k l)));
  values = λ k l. (let up : start + 5 + 2 * k ≡ start + (5 + 2 * k) = omega arith in
      ap (λ (i : ℕ). slice_index s.words i) up ∙ at (5 + 2 * k) ∙ stands.slots (5 + 2 * k) (Side (pair_at pairs k).1) (as_table (5 + 2 * k) (slot-value w b pairs k l)));
  unbound = λ i low high. (let up : start + 4 + i ≡ start + (4 + i) = omega arith in
      ap (λ (i : ℕ). slice_index s.words i) up ∙ at (4 + i) ∙ stands.slots (4 + i) (Side Unbound) (as_table (4 + i) (slot-unbound w b pairs few i low high)));
  kept = λ i l. (let up : start + 4 + 2 * b + i ≡ start + (4 + 2 * b + i) = omega arith in
      ap (λ (i : ℕ). slice_index s.words i) up ∙ at (4 + 2 * b + i) ∙ stands.kept (4 + 2 * b + i) (as_table (4 + 2 * b + i) (slot-kept w b pairs few i l)));
}
  where
    few : length pairs ≤ b
    few = (subst (λ (k : Contents). IsShaped k) is shaped).2

    at : (i : ℕ) → slice_index s.words (start + i) ≡ slice_index s.words (new_of s.moves o.place + i)
    at i = ap (λ (p : ℕ). slice_index s.words (p + i)) (sym here)

    as_table : (i : ℕ) {q : Option Slot} → slot_at (TableOf w b pairs) i ≡ q → slot_at o.contents i ≡ q
    as_table i e = ap (λ (k : Contents). slot_at k i) is ∙ e

abbrev pub table-now : (a : NamedHeap) (s : CopyState) (start : ℕ) → IsPlacedSoFar a s → (q : IsWeakStart a s kinds.Table start) → kind_of q.at.o.contents ≡ kinds.Table → IsTableNow a s start
table-now a s start h q is = record {
  name = q.name;
  o = q.at.o;
  there = q.at.there;
  settled = q.at.settled;
  here = q.at.here;
  w = (table_contents q.at.o.contents is).w;
  b = (table_contents q.at.o.contents is).b;
  pairs = (table_contents q.at.o.contents is).pairs;
  contents = (table_contents q.at.o.contents is).is;
  words = words-of a s start q.at.o (table_contents q.at.o.contents is).w (table_contents q.at.o.contents is).b (table_contents q.at.o.contents is).pairs
      (h.sound.objects q.name q.at.o q.at.there).shape (table_contents q.at.o.contents is).is q.at.here q.header (q.before is);
}

-- the words of what survives stand for its slots
module _ (objects : List (Option Object)) (words : List ℕ) (p : ℕ) (w : Weakness) (b : ℕ) (pairs : List (Value × Value)) (shape : IsShaped (TableOf w b pairs))
    (t : TableWords (word_of objects) words p w b pairs) where
  at_zero : slice_index words (p + 0) ≡ slice_index words p
  at_zero = (let none : p + 0 ≡ p = omega arith in ap (λ (i : ℕ). slice_index words i) none)

  pub table-slots : SlotsStand objects words p (TableOf w b pairs)
  table-slots = λ i. if_each (slot_at (TableOf w b pairs) i) i (λ slot e. each-slot w b pairs shape (λ i slot. StandsFor objects slot (slice_index words (p + i)))
      (at_zero ∙ t.header) t.weakness tt t.count
      (λ k l. (let up : p + (4 + 2 * k) ≡ p + 4 + 2 * k = omega arith in ap (λ (i : ℕ). slice_index words i) up ∙ t.keys k l))
      (λ k l. (let up : p + (5 + 2 * k) ≡ p + 5 + 2 * k = omega arith in ap (λ (i : ℕ). slice_index words i) up ∙ t.values k l))
      (λ j low high. (let up : p + (4 + j) ≡ p + 4 + j = omega arith in ap (λ (i : ℕ). slice_index words i) up ∙ t.unbound j low high))
      (λ j l. tt) i slot e)
    where
      if_each : (q : Option Slot) (i : ℕ) → ((slot : Slot) → q ≡ Some slot → StandsFor objects slot (slice_index words (p + i))) → IfSome q (λ slot. StandsFor objects slot (slice_index words (p + i)))
      if_each None i h = tt
      if_each (Some slot) i h = h slot refl

  pub table-kept : KeptStand words p (TableOf w b pairs)
  table-kept = λ i e. each-slot w b pairs shape (λ i slot. slot ≡ Kept → slice_index words (p + i) ≡ 0)
      (λ never. cc) (λ never. cc) (λ _. t.flag) (λ never. cc) (λ k l never. cc) (λ k l never. cc) (λ j low high never. cc)
      (λ j l _. (let up : p + (4 + 2 * b + j) ≡ p + 4 + 2 * b + j = omega arith in ap (λ (i : ℕ). slice_index words i) up ∙ t.kept j l)) i Kept e refl

living-or : (objects : List (Option Object)) (v : Value) → IsLiving objects v → IsLivingOrUnbound objects v
living-or objects (Fix n) h = h
living-or objects Nil h = h
living-or objects Unbound h = absurd h
living-or objects (Ref x) h = h

-- facts of one table
module _ (a : NamedHeap) (s : CopyState) (start : ℕ) (h : IsPlacedSoFar a s) (q : IsTableNow a s start) where
  pub table-shape : IsShaped (TableOf q.w q.b q.pairs)
  table-shape = subst (λ (k : Contents). IsShaped k) q.contents (h.sound.objects q.name q.o q.there).shape

  table_size : words_of_object q.o ≡ 4 + 4 * q.b
  table_size = (let size : 2 * ((3 + 4 * q.b + 2) / 2) ≡ 4 + 4 * q.b = omega arith in
      ap (λ (k : Contents). words_of_object (record q.o { contents = k })) q.contents ∙ size)

  pub table-inside : start + 4 + 4 * q.b ≤ length s.words
  table-inside =
      let inside = now_inside a s (ms a s h) h.sound (its a s h) q.name q.o q.there in
      let long = h.long in
      let here = q.here in
      let size = table_size in
      omega arith

  pub table-words : start + words_of_object q.o ≡ start + 4 + 4 * q.b
  table-words = (let size = table_size in omega arith)

  living : HoldsLiving a.objects (TableOf q.w q.b q.pairs)
  living = subst (λ (k : Contents). HoldsLiving a.objects k) q.contents (h.sound.objects q.name q.o q.there).contents

  pub key-living : (k : ℕ) → k < length q.pairs → IsLivingOrUnbound a.objects (pair_at q.pairs k).0
  key-living k l = living-or a.objects (pair_at q.pairs k).0
      (subst (λ (v : Value). IsLiving a.objects v) (get_or-map (λ (pair : Value × Value). pair.0) q.pairs k (zero_value, zero_value) zero_value l) (living.0 k))

  pub value-living : (k : ℕ) → k < length q.pairs → IsLivingOrUnbound a.objects (pair_at q.pairs k).1
  value-living k l = living-or a.objects (pair_at q.pairs k).1
      (subst (λ (v : Value). IsLiving a.objects v) (get_or-map (λ (pair : Value × Value). pair.1) q.pairs k (zero_value, zero_value) zero_value l) (living.1 k))
