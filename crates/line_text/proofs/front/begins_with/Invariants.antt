-- The text of a tape's line agrees with the word so far, and what is left of both decides (loop of
-- `begins_with`, src/front.rt).
use Rattle.std.proofs.Common.{◌≡◌, drop}
use Rattle.std.specs.Prelude.{nat_eq}
use Rattle.std.specs.List.{starts_with}
use Rattle.line_text.specs.Front.{sentence_of}
use Rattle.line_text.proofs.front.begins_with.Given as goal

abbrev pub invariant-loop-sign : goal.invariant-loop-sign
invariant-loop-sign l = starts_with nat_eq (sentence_of (drop l.sign-index l.signs)) l.rest ≡ starts_with nat_eq (sentence_of l.signs) l.word
