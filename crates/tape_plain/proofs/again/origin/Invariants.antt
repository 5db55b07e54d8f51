-- The line so far, past the edits that are left, is that past all (loop of `origin`, src/again.rt).
use Rattle.std.proofs.Common.{◌≡◌, drop}
use Rattle.tape_plain.specs.Again.{origin}
use Rattle.tape_plain.proofs.again.origin.Given as goal

abbrev pub invariant-loop-edit : goal.invariant-loop-edit
invariant-loop-edit l = origin l.at (drop l.edit-index l.edits) ≡ origin l.line l.edits
