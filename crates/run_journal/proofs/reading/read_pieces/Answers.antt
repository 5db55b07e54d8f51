-- The next body is read as a piece of the journal, or it is the first bad one (loop of
-- `read_pieces`, src/reading.rt).
use Rattle.std.proofs.Common.{◌<◌, length, arith}
use Rattle.std.proofs.lemmas.Result.{err_from_is_err_and}
use Rattle.run_journal.proofs.PieceByPiece.{more_are_read, not_read}
use Rattle.run_journal.proofs.reading.read_pieces.Goals as goal

pub loop-index-preserved : goal.loop-index-preserved
loop-index-preserved c =
    let i = c.loop-index in
    let within : i.index < length c.args.bodies.now = omega (arith, c.loop-index-test.true, c.len-index-end.ensures) in
    more_are_read c.args.version i.now c.args.bodies.now i.index i.entries.items i.offsets.items i.invariant within c.body.result.now c.body.ensures c.offset.result c.offset.ensures.place _ c.read_piece.new.entries.items c.read_piece.new.offsets.items c.in_ok-now.ensures.read

pub returns-in_err-now-clause-refused : goal.returns-in_err-now-clause-refused
returns-in_err-now-clause-refused c =
    let i = c.loop-index in
    let within : i.index < length c.args.bodies.now = omega (arith, c.loop-index-test.true, c.len-index-end.ensures) in
    let p = err_from_is_err_and c.from_residual.result c.from_residual.ensures.1 in
    rw (p.1, p.2) (λ header short same first. not_read c.args.version i.now c.args.bodies.now i.index i.entries.items i.offsets.items i.invariant within c.body.result.now c.body.ensures c.offset.result c.offset.ensures.place header short same first _ c.in_err-now.ensures.refused)
