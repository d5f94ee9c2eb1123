-- The table is one of those listed.
use Rattle.std.proofs.Common.{ℕ, ◌/◌, sym, subst, arith}
use Rattle.std.specs.Prelude.{slice_index}
use Rattle.copy_space.specs.State.{state}
use Rattle.weak_refs.specs.Readying.{CanReadyAt}
use Rattle.weak_refs.proofs.releasing.ready_side.Goals as goal

pub ready_in-requires : goal.ready_in-requires
ready_in-requires g c =
    let s = state c.args.copier.now in
    let table = c.args.side / 128 in
    subst (λ (start : ℕ). CanReadyAt g.a s start) (sym c.at.ensures) (record {
      midway = c.requires.midway;
      name = slice_index c.requires.names table;
      at = c.requires.named.each table (let test = c.if-table-len.true in let long = c.len.ensures.value in omega arith);
    })
