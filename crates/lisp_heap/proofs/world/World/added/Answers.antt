-- `add` adds a signed number to a raw cell, modulo 2^64.
use Rattle.std.proofs.Common.{◌≡◌, ℕ, ℤ, pos, negsuc, ◌+◌, ◌-◌, ◌%◌, ◌^◌, refl, ap, ◌∙◌, to_z, of_z, w64, arith}
use Rattle.std.proofs.lemmas.Int.{to_z-of_z}
use Rattle.heap_terms.specs.RawCells.{word_plus}
use Rattle.lisp_heap.specs.View.{heap_of}
use Rattle.lisp_heap.proofs.Plans.{added_is}
use Rattle.lisp_heap.proofs.world.World.added.Goals as goal

plus_is : (word : ℕ) (k : ℤ) → (word + of_z w64 k) % 2 ^ 64 ≡ word_plus word k
plus_is word (pos k) = refl
plus_is word (negsuc k) = ap (λ (m : ℕ). (word + (2 ^ 64 - m)) % 2 ^ 64) (omega arith)

pub returns : goal.returns
returns c =
    let same : to_z w64 (of_z w64 c.args.k) ≡ c.args.k = to_z-of_z w64 c.args.k c.ranges.k in
    added_is (heap_of c.args.self.now) c.args.t c.args.r c.args.k c.wrapping_add_signed-word.result c.requires.r
    (c.wrapping_add_signed-word.ensures ∙ ap (λ (k : ℤ). (c.raw.result + of_z w64 k) % 2 ^ 64) same ∙ plus_is c.raw.result c.args.k ∙ ap (λ (n : ℕ). word_plus n c.args.k) c.raw.ensures)
