-- Each part that is done is joined with its wait, then the line of the last part; together they are
-- all lines of the called program. For the contract of `join` (src/piece.rt).
use Rattle.std.proofs.Common.{◌+◌, drop, sym, subst}
use Rattle.part_lines.proofs.Shown.{IsJoinedSoFar, joined_next}
use Rattle.part_lines.proofs.piece.PieceLines.join.Goals as goal

pub loop-line-preserved : goal.loop-line-preserved
loop-line-preserved c =
    let old = c.args.self.now in
    let more = c.args.more.now in
    let i = c.loop-line.line-index in
    let is = c.deref-line-items.ensures.value in
    subst (λ xs. IsJoinedSoFar old c.pass.new.self (drop (i + 1) xs) more) is
    (joined_next old c.loop-line.self c.see.new.self c.pass.new.self more c.deref-line-items.result.now i _ c.loop-line-test.true
    c.see.ensures c.in_ok-pass.ensures (subst (λ xs. IsJoinedSoFar old c.loop-line.self (drop i xs) more) (sym is) c.loop-line.invariant))
