-- `fix` puts the fixnum's word into the cell.
use Rattle.std.proofs.Common.{◌≡◌, ℕ, ap, ◌∙◌, to_z, of_z, w64}
use Rattle.std.proofs.lemmas.Int.{to_z-of_z}
use Rattle.heap_terms.specs.Layout.{fixnum_word}
use Rattle.heap_terms.specs.Valid.{IsFixnum}
use Rattle.heap_laws.proofs.AtPlaces.{IfSome-at}
use Rattle.lisp_heap.specs.View.{heap_of}
use Rattle.lisp_heap.proofs.Plans.{fixed_is}
use Rattle.lisp_heap.proofs.world.World.fixed.Goals as goal

pub returns : goal.returns
returns c =
    let same : to_z w64 (of_z w64 c.args.n) ≡ c.args.n = to_z-of_z w64 c.args.n c.ranges.n in
    let said = IfSome-at (λ (word : ℕ). (word ≡ fixnum_word (to_z w64 (of_z w64 c.args.n))) × IsFixnum (to_z w64 (of_z w64 c.args.n)))
    c.fixnum.result c.unwrap-word.result c.unwrap-word.ensures c.fixnum.ensures.word in
    fixed_is (heap_of c.args.self.now) c.args.t c.args.d c.args.n c.unwrap-word.result c.requires.d (said.0 ∙ ap fixnum_word same)
