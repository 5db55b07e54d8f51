-- If each program of the tape is closed (no block of it has or calls a line that is less than what
-- was found of it), so is every O number. For the contract of `is_closed` (src/quiet.rt).
use Rattle.std.proofs.Common.{◌≡◌, ◌≤◌, length, slice_get, Some, subst, sym, arith, rules}
use Rattle.std.proofs.lemmas.Option.{slice_get_within}
use Rattle.part_lines.specs.Pieces.{quiet_known}
use Rattle.part_lines.proofs.Opened.{all_closed}
use Rattle.part_lines.proofs.quiet.is_closed.Goals as goal

pub returns : goal.returns
returns g c is_true =
    let order = c.args.order.now in
    let items = c.as_slice-program-items.result.now in
    let same : items ≡ order = c.as_slice-program-items.ensures.same in
    let past : length items ≤ c.loop-program.program-index = search rules in
    all_closed order (g.L.BlockLines.line c.args.lines.now) (quiet_known c.args.found.now)
    (λ j p at. let there = subst (λ xs. slice_get xs j ≡ Some p) (sym same) at in
    c.loop-program.invariant j p (let within = slice_get_within items j p there in omega arith) there)
