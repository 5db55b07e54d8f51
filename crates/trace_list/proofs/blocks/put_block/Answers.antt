-- For the proof of `put_block`: it puts what a block changed, and then its moves; if the sink
-- fails, a prefix of that (src/blocks.rt).
use Rattle.std.proofs.Common.{◌++◌}
use Rattle.trace_list.specs.Trace.{moved_lines, shift_lines, spindle_lines}
use Rattle.trace_list.proofs.InParts.{lines_then, lines_stop}
use Rattle.trace_list.proofs.blocks.put_block.Goals as goal

pub returns-in-Ok : goal.returns-in-Ok
returns-in-Ok g c = lines_then _ _ _ (shift_lines c.args.path c.args.moves.now.line c.args.before.now.shift c.args.after.now.shift) (spindle_lines c.args.path c.args.moves.now c.args.before.now.surface c.args.after.now.surface ++ moved_lines c.args.path c.args.moves.now.line c.args.moves.now.list) _ c.in-Ok.ensures c.put_way_and_moves.ensures

pub returns-in-Err : goal.returns-in-Err
returns-in-Err g c = lines_stop _ _ (shift_lines c.args.path c.args.moves.now.line c.args.before.now.shift c.args.after.now.shift) (spindle_lines c.args.path c.args.moves.now c.args.before.now.surface c.args.after.now.surface ++ moved_lines c.args.path c.args.moves.now.line c.args.moves.now.list) _ c.in-Err.ensures
