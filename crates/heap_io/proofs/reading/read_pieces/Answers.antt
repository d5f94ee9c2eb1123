use Rattle.std.proofs.lemmas.Result.{err_from_is_err_and}
use Rattle.heap_io.proofs.StreamLemmas.{Gave-GaveMore, Gave-GaveAtMost}
use Rattle.heap_io.proofs.reading.read_pieces.Goals as goal

pub returns-in_err-take_piece-clause-too_long : goal.returns-in_err-take_piece-clause-too_long
returns-in_err-take_piece-clause-too_long g c =
    let p = err_from_is_err_and c.from_residual-in_err-take_piece.result c.from_residual-in_err-take_piece.ensures.1 in
    let so_far = c.loop-bytes.invariant in
    let piece = c.in_err-take_piece.ensures in
    rw (p.1, p.2) (λ h. Gave-GaveMore _ _ _ _ _ _ c.loop-bytes.bytes.ok.0 so_far.gave (piece.too_long h))

pub returns-in_err-take_piece-clause-at_most : goal.returns-in_err-take_piece-clause-at_most
returns-in_err-take_piece-clause-at_most g c =
    let p = err_from_is_err_and c.from_residual-in_err-take_piece.result c.from_residual-in_err-take_piece.ensures.1 in
    let so_far = c.loop-bytes.invariant in
    let piece = c.in_err-take_piece.ensures in
    rw (p.1, p.2)
    (λ h. Gave-GaveAtMost _ _ _ _ _ _ c.loop-bytes.bytes.ok.0 so_far.within so_far.gave (piece.at_most h))
