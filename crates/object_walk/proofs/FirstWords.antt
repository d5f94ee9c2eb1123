-- Where words stand for an object, the first is one with which an object of its kind and payload can begin.
use Rattle.std.proofs.Common.{◌≡◌, ◌≢◌, ℕ, ℤ, pos, negsuc, ◌+◌, ◌-◌, ◌*◌, ◌%◌, ◌≤◌, List, [], ◌∷◌, ◌++◌, length, map, replicate, Option, Some, None, refl, sym, ◌∙◌, ap, arith, length-append}
use Rattle.std.proofs.lemmas.List.{length-map, length-replicate}
use Rattle.std.specs.Prelude.{flat_map, slice_index, IsSome}
use Rattle.heap_terms.specs.declared.cells.Value.{Value}
use Rattle.heap_terms.specs.declared.cells.Value.TheVariants.{Fix, Nil, Unbound, Ref}
use Rattle.heap_terms.specs.declared.kinds.Kind.{Kind}
use Rattle.heap_terms.specs.declared.kinds.Kind.TheVariants as kinds
use Rattle.heap_terms.specs.declared.kinds.Weakness.{Weakness}
use Rattle.heap_terms.specs.Heap.{object_at}
use Rattle.heap_terms.specs.LaidOut.{BeginsWith}
use Rattle.heap_terms.specs.Layout.{fixnum_word, header_of, reference_word, weakness_number}
use Rattle.heap_terms.specs.Living.{IsLiving, HoldsLiving, IsShaped}
use Rattle.heap_terms.specs.Objects.{Object, Contents, ConsOf, VectorOf, InstanceOf, ClosureOf, WordsOf, WeakTo, TableOf, kind_of, payload_of}
use Rattle.heap_terms.specs.Slots.{Slot, Raw, Val, Side, Kept, pair_slots}
use Rattle.heap_terms.specs.Spelling.{word_of, word_of_object}
use Rattle.heap_terms.specs.Stands.{SlotsStand}
use Rattle.heap_terms.specs.Valid.{IsFixnum}

-- no living value's word is 1 modulo 4
fixnum_even : (n : ℤ) → IsFixnum n → fixnum_word n % 2 ≡ 0
fixnum_even (pos n) h = omega (arith, h)
fixnum_even (negsuc n) h = omega (arith, h)

reference_three : (place : ℕ) (kind : Kind) → reference_word place kind % 4 ≡ 3
reference_three place kinds.Cons = omega arith
reference_three place kinds.Vector = omega arith
reference_three place kinds.Instance = omega arith
reference_three place kinds.Closure = omega arith
reference_three place kinds.Words = omega arith
reference_three place kinds.Weak = omega arith
reference_three place kinds.Table = omega arith

object_word : (r : Option Object) → IsSome r → word_of_object r % 4 ≢ 1
object_word None there e = cc
object_word (Some o) there e = omega (arith, reference_three o.place (kind_of o.contents), e)

value_word : (objects : List (Option Object)) (v : Value) → IsLiving objects v → word_of objects v % 4 ≢ 1
value_word objects (Fix n) h e = omega (arith, fixnum_even n h, e)
value_word objects Nil h e = omega (arith, e)
value_word objects Unbound h e = absurd h
value_word objects (Ref name) h e = object_word (object_at objects name) h e

-- the payload of a table
sides_length : (pairs : List (Value × Value)) → length (flat_map (λ pair. Side pair.0 ∷ Side pair.1 ∷ []) pairs) ≡ 2 * length pairs
sides_length [] = refl
sides_length (pair ∷ pairs) = omega (arith, sides_length pairs)

table_payload : Weakness → ℕ → List (Value × Value) → List Slot
table_payload w b pairs = Raw (fixnum_word (pos (weakness_number w))) ∷ Kept ∷ Raw (fixnum_word (pos (length pairs))) ∷ (pair_slots b pairs ++ replicate (2 * b) Kept)

table_length : (w : Weakness) (b : ℕ) (pairs : List (Value × Value)) → length pairs ≤ b → length (table_payload w b pairs) ≡ 3 + 4 * b
unfolding table_payload
table_length w b pairs few =
    let sides = sides_length pairs in
    let unused = length-replicate (2 * (b - length pairs)) (Side Unbound) in
    let both = length-append (flat_map (λ pair. Side pair.0 ∷ Side pair.1 ∷ []) pairs) (replicate (2 * (b - length pairs)) (Side Unbound)) in
    let kept = length-replicate (2 * b) Kept in
    let all = length-append (pair_slots b pairs) (replicate (2 * b) Kept) in
    omega arith

-- the word at an index that is the sum of it and 0
first_at : (words : List ℕ) (from word : ℕ) → slice_index words (from + 0) ≡ word → slice_index words from ≡ word
first_at words from word h = (let same : from + 0 ≡ from = omega arith in rw same at h)

headed : (words : List ℕ) (from n m : ℕ) (kind : Kind) → slice_index words (from + 0) ≡ header_of kind n → n ≡ m → slice_index words from ≡ header_of kind m
headed words from n m kind h e = first_at words from (header_of kind n) h ∙ ap (header_of kind) e

pub first_word_stands : (objects : List (Option Object)) (words : List ℕ) (from : ℕ) (k : Contents) → SlotsStand objects words from k → IsShaped k →
    HoldsLiving objects k → BeginsWith (kind_of k) (payload_of k) (slice_index words from)
unfolding table_payload
first_word_stands objects words from (ConsOf a b) h shape living =
    (refl, λ e. value_word objects a living.0 (ap (λ (w : ℕ). w % 4) (sym (first_at words from (word_of objects a) (h 0))) ∙ e))
first_word_stands objects words from (VectorOf vs) h shape living = (headed words from (length (map Val vs)) (length vs) kinds.Vector (h 0) (length-map vs Val), shape)
first_word_stands objects words from (InstanceOf vs) h shape living = (headed words from (length (map Val vs)) (length vs) kinds.Instance (h 0) (length-map vs Val), shape)
first_word_stands objects words from (ClosureOf vs) h shape living = (headed words from (length (map Val vs)) (length vs) kinds.Closure (h 0) (length-map vs Val), shape)
first_word_stands objects words from (WordsOf ws) h shape living = (headed words from (length (map Raw ws)) (length ws) kinds.Words (h 0) (length-map ws Raw), shape.0)
first_word_stands objects words from (WeakTo v) h shape living = (headed words from 1 1 kinds.Weak (h 0) refl, omega arith)
first_word_stands objects words from (TableOf w b pairs) h shape living =
    (headed words from (length (table_payload w b pairs)) (3 + 4 * b) kinds.Table (h 0) (table_length w b pairs shape.2), omega (arith, shape.1))
