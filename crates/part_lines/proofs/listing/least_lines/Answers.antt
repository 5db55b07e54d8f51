-- No chain of nine calls that lead to a wait or an end begins in the main program, so its piece is
-- made; closed, it has the least line of each part. For the contract of `least_lines`
-- (src/listing.rt).
use Rattle.std.proofs.Common.{sym, subst}
use Rattle.loud_calls.specs.Calls.{IsShort}
use Rattle.part_lines.specs.PartLines.{AreLeastLines}
use Rattle.part_lines.specs.Pieces.{quiet_known, IsPiece}
use Rattle.part_lines.proofs.PartsLeast.{closed_least}
use Rattle.part_lines.proofs.Ready.{if_ok}
use Rattle.part_lines.proofs.listing.least_lines.Goals as goal

pub piece_of-requires-clause-short : goal.piece_of-requires-clause-short
piece_of-requires-clause-short g c =
    subst (λ p. IsShort c.args.order.now 9 p) (sym c.main-main.ensures) c.runs_have_one_list.ensures.chains

pub returns : goal.returns
returns g c =
    let order = c.args.order.now in
    let line = g.L.BlockLines.line c.args.lines.now in
    let quiet = quiet_known c.in_ok-quiet.quiet in
    let piece = c.in_ok-piece.piece in
    let main = subst (λ p. IsPiece order line quiet p piece.lines piece.ending) c.main-main.ensures c.in_ok-piece.ensures.piece in
    if_ok _ (λ found. AreLeastLines order line found.items) c.closed.result
    (λ found is. subst (AreLeastLines order line) (sym is)
    (closed_least order line quiet c.in_ok-quiet.ensures piece.lines piece.ending c.runs_have_one_list.ensures.chains main))
    c.closed.ensures
