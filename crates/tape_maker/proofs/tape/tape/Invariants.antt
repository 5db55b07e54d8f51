-- The text so far is the head and the rounds so far (loop of `tape`, src/tape.rt).
use Rattle.std.proofs.Common.{◌≡◌, ◌-◌, ◌++◌}
use Rattle.std.specs.List.{flat_map, range_with_len}
use Rattle.tape_maker.specs.MadeTape.{head_lines, round_lines, text_of}
use Rattle.tape_maker.proofs.tape.tape.Given as goal

abbrev pub invariant-loop-round : goal.invariant-loop-round
invariant-loop-round l = l.text.items ≡ text_of (head_lines ++ flat_map (round_lines l.path l.number) (range_with_len 1 (l.round - 1)))
