-- A line that adds no program and no block keeps the shape of what was read of a tape (`pass`,
-- src/progress.rt).
use Rattle.std.proofs.Common.{◌≤◌, ◌+◌, ◌++◌, arith}
use Rattle.std.specs.Option.{option_to_list}
use Rattle.nc_text.proofs.Shaping.{line_shaped}
use Rattle.nc_text.proofs.progress.Progress.pass.Goals as goal

pub invariant_of-self-clause-shaped : goal.invariant_of-self-clause-shaped
invariant_of-self-clause-shaped c =
    let old = c.args.self.now in
    let later : old.lines ≤ old.lines + 1 = omega arith in
    line_shaped old.lines (old.lines + 1) old.blocks (old.done.items ++ option_to_list old.current) old.shaped later
