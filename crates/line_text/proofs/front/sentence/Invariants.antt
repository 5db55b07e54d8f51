-- The text of a statement so far is that of the signs so far without comments (loop of `sentence`,
-- src/front.rt).
use Rattle.std.proofs.Common.{◌≡◌, ◌++◌, drop}
use Rattle.line_text.specs.Front.{sentence_of}
use Rattle.line_text.proofs.front.sentence.Given as goal

abbrev pub invariant-loop-sign : goal.invariant-loop-sign
invariant-loop-sign l = l.text.items ++ sentence_of (drop l.sign-index l.signs) ≡ sentence_of l.signs
