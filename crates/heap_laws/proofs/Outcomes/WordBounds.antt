-- The words of living values, and sums of raw words, are words of 64 bits.
use Rattle.std.proofs.Common.{ℕ, ℤ, ◌+◌, ◌-◌, ◌^◌, ◌<◌, ◌≤◌, length, arith}
use Rattle.std.proofs.lemmas.Nat.{mod_below}
use Rattle.std.specs.Prelude.{pos, negsuc}
use Rattle.heap_terms.specs.declared.cells.Value.{Value}
use Rattle.heap_terms.specs.declared.cells.Value.TheVariants as values
use Rattle.heap_terms.specs.declared.kinds.Kind.{Kind}
use Rattle.heap_terms.specs.declared.kinds.Kind.TheVariants as kinds
use Rattle.heap_terms.specs.declared.limits.TheConstants.{MOST_PAGES}
use Rattle.heap_terms.specs.Heap.{NamedHeap, object_at}
use Rattle.heap_terms.specs.Layout.{lowtag_of, fixnum_word}
use Rattle.heap_terms.specs.Living.{IsLiving}
use Rattle.heap_terms.specs.Objects.{kind_of}
use Rattle.heap_terms.specs.RawCells.{word_plus}
use Rattle.heap_terms.specs.Sound.{IsSound}
use Rattle.heap_terms.specs.Valid.{IsFixnum}
use Rattle.heap_terms.specs.Spelling.{word_of}
use Rattle.heap_laws.proofs.Lists.Places.{IsSome-value}

fixnum_below : (n : ℤ) → IsFixnum n → fixnum_word n < 2 ^ 64
fixnum_below (pos n) h = omega arith
fixnum_below (negsuc n) h = omega arith

lowtag_most : (kind : Kind) → lowtag_of kind ≤ 15
lowtag_most kinds.Cons = omega arith
lowtag_most kinds.Vector = omega arith
lowtag_most kinds.Instance = omega arith
lowtag_most kinds.Closure = omega arith
lowtag_most kinds.Words = omega arith
lowtag_most kinds.Weak = omega arith
lowtag_most kinds.Table = omega arith

-- the word of a living value in a heap of at most 1,024 pages
pub word_below : (a : NamedHeap) (v : Value) → IsSound a → length a.pages ≤ MOST_PAGES → IsLiving a.objects v → word_of a.objects v < 2 ^ 64
word_below a (values.Fix n) w pages h = fixnum_below n h
word_below a values.Nil w pages h = omega arith
word_below a values.Unbound w pages h = absurd h
word_below a (values.Ref name) w pages h =
    let found = IsSome-value (object_at a.objects name) h in
    let o = found.0 in
    let inside = (w.objects name o found.1).placed.inside in
    let tag = lowtag_most (kind_of o.contents) in
    rw found.1 (omega arith)

pub word_plus-below : (word : ℕ) (k : ℤ) → word_plus word k < 2 ^ 64
word_plus-below word (pos k) = mod_below (word + k) (2 ^ 64) (omega arith)
word_plus-below word (negsuc k) = mod_below (word + (2 ^ 64 - (k + 1))) (2 ^ 64) (omega arith)
