-- What is known so far, past the lines that are left, is what is known behind all (loop of
-- `pass_lines`, src/walk.rt).
use Rattle.std.proofs.Common.{◌≡◌, true, drop}
use Rattle.plain_blocks.specs.Walk.{pass_lines}
use Rattle.plain_blocks.proofs.walk.pass_lines.Given as goal

abbrev pub invariant-loop-line : goal.invariant-loop-line
invariant-loop-line l =
    pass_lines l.rules l.stands l.is_first l.place l.behind (drop l.line-index l.lines)
    ≡ pass_lines l.rules l.stands true l.start l.known l.lines
