-- `put_round` writes one cut more at each turn, and after the cuts the line on a variable and the
-- wait (src/tape.rt).
use Rattle.std.proofs.Common.{◌≡◌, arith}
use Rattle.tape_maker.specs.MadeTape.{cut_line}
use Rattle.tape_maker.proofs.Lines.{first_line, line_more, round_done}
use Rattle.tape_maker.proofs.tape.put_round.Goals as goal

pub loop-cut-init : goal.loop-cut-init
loop-cut-init c = first_line (cut_line c.args.path c.args.number c.args.round) c.args.text.now.items

pub loop-cut-preserved : goal.loop-cut-preserved
loop-cut-preserved c =
    line_more (cut_line c.args.path c.args.number c.args.round) c.args.text.now.items c.loop-cut.text.items c.put_cut.new.text.items c.loop-cut.cut
    c.loop-cut.invariant c.in_ok-put_cut.ensures

pub returns : goal.returns
returns c =
    let all : c.loop-cut.cut ≡ 98 = omega arith in
    rw (round_done c.args.path c.args.number c.args.round c.args.text.now.items c.loop-cut.text.items c.put_line.new.text.items c.loop-cut.cut all
    c.loop-cut.invariant (rw (← c.line_on_variable.ensures) c.in_ok-put_line.ensures)) c.put_wait.ensures
