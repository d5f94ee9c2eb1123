-- One start more is marked.
use Rattle.std.proofs.Common.{ℕ, ◌/◌, ◌<◌, length, ◌∙◌, sym, subst, arith}
use Rattle.std.proofs.lemmas.List.{length-set}
use Rattle.copy_space.specs.Clearing.{IsDoubleWord}
use Rattle.copy_space.proofs.Marking.{marked-more}
use Rattle.copy_space.proofs.marks.mark_starts.Goals as goal

pub set-requires : goal.set-requires
set-requires c =
    let inside : c.loop-i.i < length c.args.starts.now.listed = omega arith in
    omega (arith, c.loop-i.invariant.long, (c.requires c.loop-i.i 0 inside).inside, c.at.ensures)

pub loop-i-preserved : goal.loop-i-preserved
loop-i-preserved c =
    let starts = c.args.starts.now.listed in
    let i = c.loop-i.i in
    let inside : i < length starts = omega arith in
    let its : IsDoubleWord (length c.args.marks.now) c.at.result = subst (λ (p : ℕ). IsDoubleWord (length c.args.marks.now) p) (sym c.at.ensures) (c.requires i 0 inside) in
    let within : c.at.result / 2 < length c.loop-i.marks = omega (arith, c.loop-i.invariant.long, its.inside) in
    rw c.set.ensures (record {
      long = length-set c.loop-i.marks (c.at.result / 2) c.args.mark ∙ c.loop-i.invariant.long;
      marked = marked-more c.args.mark c.args.marks.now c.loop-i.marks starts i c.at.result inside c.at.ensures its.even within c.loop-i.invariant.marked;
    })
