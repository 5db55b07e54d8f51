-- The last point from here on is the last of all (loop of `last_of`, src/frames.rt).
use Rattle.std.proofs.Common.{◌≡◌, drop}
use Rattle.rough_words.specs.Frames.{last_of}
use Rattle.rough_words.proofs.frames.last_of.Given as goal

abbrev pub invariant-loop-line : goal.invariant-loop-line
invariant-loop-line l = last_of l.last (drop l.line-index l.lines) ≡ last_of l.first l.lines
