-- A line that is not too long says something of the right shape (`program_line`, src/step.rt).
use Rattle.std.proofs.Common.{arith}
use Rattle.nc_number.specs.declared.limits.TheConstants.{LONGEST_LINE}
use Rattle.line_text.proofs.ShapeOfLine.{line_said}
use Rattle.nc_text.proofs.step.program_line.Goals as goal

pub pass_said-requires-clause-shape : goal.pass_said-requires-clause-shape
pass_said-requires-clause-shape c = λ short. line_said LONGEST_LINE c.args.skips c.args.bytes.now c.args.ended c.in-Ok.said (omega (arith, c.requires.within, short)) c.in-Ok.ensures
