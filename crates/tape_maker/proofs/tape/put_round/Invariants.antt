-- The text so far ends with the cuts so far of this round (loop of `put_round`,
-- src/tape.rt).
use Rattle.std.proofs.Common.{◌≡◌, ◌++◌, map}
use Rattle.std.specs.List.{range_with_len}
use Rattle.tape_maker.specs.MadeTape.{cut_line, text_of}
use Rattle.tape_maker.proofs.tape.put_round.Given as goal

abbrev pub invariant-loop-cut : goal.invariant-loop-cut
invariant-loop-cut l = l.text.items ≡ l.initial.text.items ++ text_of (map (cut_line l.path l.number l.round) (range_with_len 0 l.cut))
