-- For the proof of `put_lines` (src/report.rt): a line for each move is put, or, with the sink's
-- fault, a prefix of them.
use Rattle.std.proofs.lemmas.Result.{err_from_is_err_and}
use Rattle.move_list.specs.Report.{lined_text}
use Rattle.nc_verify.proofs.InPieces.{put_nothing, put_on, put_breaks, each_more, each_parted, each_whole, put_same}
use Rattle.move_list.proofs.report.put_lines.Goals as goal

pub loop-made-init : goal.loop-made-init
loop-made-init g c = put_nothing _

pub loop-made-preserved : goal.loop-made-preserved
loop-made-preserved g c =
    put_on _ _ _ _ _ _ (each_more lined_text c.args.moves.now c.loop-made.made-index c.made-item.result c.loop-made-test.true c.made-item.is)
    c.loop-made.invariant c.in_ok-put_line.ensures

pub returns-in_err-put_line : goal.returns-in_err-put_line
returns-in_err-put_line g c =
    let p = err_from_is_err_and c.from_residual.result c.from_residual.ensures.1 in
    rw (p.1, p.2)
    (put_breaks _ _ _ _ _ _ _ _ (each_parted lined_text c.args.moves.now c.loop-made.made-index c.made-item.result c.loop-made-test.true c.made-item.is)
    c.loop-made.invariant c.in_err-put_line.ensures)

pub returns : goal.returns
returns g c = put_same _ _ _ _ (each_whole lined_text c.args.moves.now c.loop-made.made-index c.loop-made-test.false) c.loop-made.invariant
