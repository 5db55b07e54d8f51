-- The count so far, with what is left, is that of all (loop of `size_of`, src/draft.rt).
use Rattle.std.proofs.Common.{◌≡◌, ◌++◌, take, drop}
use Rattle.tape_plain.specs.Draft.{size_of}
use Rattle.tape_plain.proofs.draft.size_of.Given as goal

abbrev pub invariant-loop-steps : goal.invariant-loop-steps
invariant-loop-steps l = size_of l.size (drop l.steps-index l.all) ≡ size_of 0 l.all
