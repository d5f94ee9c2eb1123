-- One start more.
use Rattle.std.proofs.Common.{◌≡◌, ℕ, length, sym, subst, arith}
use Rattle.std.specs.Prelude.{slice_index}
use Rattle.copy_space.specs.State.{state}
use Rattle.scavenge.proofs.Frames.{same-on, same-self}
use Rattle.weak_refs.specs.Readying.{AreReady, CanReadyAt, HasSameMoves, IsReadyAt}
use Rattle.weak_refs.proofs.Midways.{weak-stays}
use Rattle.weak_refs.proofs.Readies.{readies-same, readies-on}
use Rattle.weak_refs.proofs.TableReady.{starts-ready-on}
use Rattle.weak_refs.proofs.readying.ready_all.Goals as goal

pub loop-i-init : goal.loop-i-init
loop-i-init g c = record {
  readies = readies-same g.a (state c.args.copier.now) c.requires.midway;
  ready = λ zero same k l. absurd (omega (arith, l, zero));
  same = same-self c.args.copier.now;
}

pub ready_at-requires : goal.ready_at-requires
ready_at-requires g c =
    let r = state c.loop-i.copier in
    let starts = c.args.weak.now.listed in
    let most = c.len-i-end.ensures.value in
    let test = c.loop-i-test.true in
    let h = c.loop-i.invariant.readies in
    subst (λ (start : ℕ). CanReadyAt g.a r start) (sym c.at.ensures) (record {
      midway = h.midway;
      name = slice_index c.requires.names c.loop-i.i;
      at = weak-stays g.a (state c.args.copier.now) r (slice_index c.requires.names c.loop-i.i) (slice_index starts c.loop-i.i) h (c.requires.named.each c.loop-i.i (omega arith));
    })

pub loop-i-preserved : goal.loop-i-preserved
loop-i-preserved g c =
    let s = state c.args.copier.now in
    let r = state c.loop-i.copier in
    let t = state c.ready_at.new.copier in
    let starts = c.args.weak.now.listed in
    let h = c.loop-i.invariant.readies in
    let k = c.ready_at.ensures.readies in
    record {
      readies = readies-on g.a s r t h k;
      ready = λ zero. starts-ready-on g.a s r t starts c.loop-i.i h k (c.loop-i.invariant.ready zero)
          (subst (λ (start : ℕ). HasSameMoves r t → IsReadyAt g.a t start) c.at.ensures c.ready_at.ensures.ready);
      same = same-on c.args.copier.now c.loop-i.copier c.ready_at.new.copier c.loop-i.invariant.same c.ready_at.ensures.same;
    }

pub returns-clause-ready : goal.returns-clause-ready
returns-clause-ready g c = λ zero same.
    (let end : c.loop-i.i ≡ length c.args.weak.now.listed = (let most = c.len-i-end.ensures.value in let test = c.loop-i-test.false in omega arith) in
    subst (λ (n : ℕ). AreReady g.a (state c.loop-i.copier) c.args.weak.now.listed n) end (c.loop-i.invariant.ready zero same))
