-- For the proof of `put_moves`: it puts a line for each move of a block; if the sink fails, a
-- prefix of that (src/blocks.rt).
use Rattle.std.proofs.Common.{refl, ap}
use Rattle.std.proofs.lemmas.Result.{err_from_is_err_and}
use Rattle.std.proofs.lemmas.List.{at_drop_all}
use Rattle.nc_outside.proofs.Finding.{at_place}
use Rattle.trace_list.specs.Trace.{moved_lines}
use Rattle.trace_list.specs.TraceText.{lines_text}
use Rattle.trace_list.proofs.InParts.{has_begun, has_more, has_broken, has_all}
use Rattle.trace_list.proofs.blocks.put_moves.Goals as goal

pub loop-what-init : goal.loop-what-init
loop-what-init g c = has_begun _ _ _ refl

pub loop-what-preserved : goal.loop-what-preserved
loop-what-preserved g c =
    let from = at_place c.args.moves.now c.loop-what.what-index c.what-item.result c.loop-what-test.true c.what-item.is in
    has_more _ _ _ _ _ _ _ (ap (λ (xs : _). lines_text (moved_lines c.args.path c.args.line xs)) from) c.loop-what.invariant c.in_ok-put_move.ensures

pub returns-in_err-put_move : goal.returns-in_err-put_move
returns-in_err-put_move g c =
    let p = err_from_is_err_and c.from_residual.result c.from_residual.ensures.1 in
    let from = at_place c.args.moves.now c.loop-what.what-index c.what-item.result c.loop-what-test.true c.what-item.is in
    rw (p.1, p.2)
    (has_broken _ _ _ _ _ _ _ _ (ap (λ (xs : _). lines_text (moved_lines c.args.path c.args.line xs)) from) c.loop-what.invariant c.in_err-put_move.ensures)

pub returns : goal.returns
returns g c =
    has_all _ _ _ _ (at_drop_all (λ (xs : _). lines_text (moved_lines c.args.path c.args.line xs)) c.args.moves.now c.loop-what.what-index c.loop-what-test.false)
    c.loop-what.invariant
