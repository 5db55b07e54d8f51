-- The edits so far are those of the programs so far (loop of `edits_of`, src/draft.rt).
use Rattle.std.proofs.Common.{◌≡◌, ◌++◌, take, drop}
use Rattle.tape_plain.specs.Draft.{edits_of}
use Rattle.tape_plain.proofs.draft.edits_of.Given as goal

abbrev pub invariant-loop-steps : goal.invariant-loop-steps
invariant-loop-steps l = l.edits.items ≡ edits_of l.comments (take l.steps-index l.all)
