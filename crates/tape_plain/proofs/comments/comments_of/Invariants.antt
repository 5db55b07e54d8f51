-- The comments so far, and those of the bytes that are left, are those of all (loop of `comments_of`,
-- src/comments.rt).
use Rattle.std.proofs.Common.{◌≡◌, ◌++◌, false, [], drop}
use Rattle.tape_plain.specs.Comments.{comments_from}
use Rattle.tape_plain.proofs.comments.comments_of.Given as goal

abbrev pub invariant-loop-byte : goal.invariant-loop-byte
invariant-loop-byte l = l.comments.items ++ comments_from l.inside l.line.items (drop l.byte-index l.text) ≡ comments_from false [] l.text
