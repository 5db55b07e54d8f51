-- The words that are left say the same exactly if all do (loop of `are_same_words`, src/saying.rt).
use Rattle.std.proofs.Common.{◌≡◌, drop}
use Rattle.written_blocks.specs.Saying.{are_at}
use Rattle.written_blocks.proofs.saying.are_same_words.Given as goal

abbrev pub invariant-loop-place : goal.invariant-loop-place
invariant-loop-place l = are_at l.own l.place (drop l.place l.others) ≡ are_at l.own 0 l.others
