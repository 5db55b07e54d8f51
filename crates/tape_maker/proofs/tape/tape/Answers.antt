-- `tape` writes one round more at each turn, and after the rounds the end of the tape
-- (src/tape.rt).
use Rattle.std.proofs.Common.{◌≡◌, ◌≤◌, arith, rules}
use Rattle.tape_maker.specs.MadeTape.{head_lines, round_lines}
use Rattle.tape_maker.proofs.Lines.{first_round, round_more, tape_done}
use Rattle.tape_maker.proofs.tape.tape.Goals as goal

pub loop-round-init : goal.loop-round-init
loop-round-init c = rw (first_round (round_lines c.args.path c.args.number)) (search rules)

pub loop-round-preserved : goal.loop-round-preserved
loop-round-preserved c =
    let counted : 1 ≤ c.loop-round.round = omega arith in
    round_more (round_lines c.args.path c.args.number) head_lines c.loop-round.text.items c.put_round.new.text.items c.loop-round.round counted
    c.loop-round.invariant c.in_ok-put_round.ensures

pub returns : goal.returns
returns c =
    let all : c.loop-round.round ≡ 51 = omega arith in
    tape_done c.args.path c.args.number c.loop-round.text.items c.extend_from_slice-2.new.self.items c.loop-round.round all
    c.loop-round.invariant (search rules)
