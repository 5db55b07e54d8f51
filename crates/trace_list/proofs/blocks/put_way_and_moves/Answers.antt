-- For the proof of `put_way_and_moves`: it puts the way of the spindle, and then the moves; if the
-- sink fails, a prefix of that (src/blocks.rt).
use Rattle.trace_list.specs.Trace.{moved_lines, spindle_lines}
use Rattle.trace_list.proofs.InParts.{lines_then, lines_stop}
use Rattle.trace_list.proofs.blocks.put_way_and_moves.Goals as goal

pub returns-in-Ok : goal.returns-in-Ok
returns-in-Ok g c = lines_then _ _ _ (spindle_lines c.args.path c.args.moves.now c.args.before c.args.after) (moved_lines c.args.path c.args.moves.now.line c.args.moves.now.list) _ c.in-Ok.ensures (rw (c.as_slice.ensures.moves) at c.put_moves.ensures)

pub returns-in-Err : goal.returns-in-Err
returns-in-Err g c = lines_stop _ _ (spindle_lines c.args.path c.args.moves.now c.args.before c.args.after) (moved_lines c.args.path c.args.moves.now.line c.args.moves.now.list) _ c.in-Err.ensures
