-- For the proof of `put_end`: it puts a block, and that its path ends there; if the sink fails, a
-- prefix of that (src/blocks.rt).
use Rattle.std.proofs.Common.{[], ◌∷◌}
use Rattle.trace_list.specs.Trace.{block_lines}
use Rattle.trace_list.specs.TraceText.{Ended}
use Rattle.trace_list.proofs.InParts.{lines_then, lines_stop}
use Rattle.trace_list.proofs.blocks.put_end.Goals as goal

pub returns-in-Ok : goal.returns-in-Ok
returns-in-Ok g c = lines_then _ _ _ (block_lines c.args.path c.args.moves.now c.args.before.now c.args.after.now) (Ended c.args.path c.args.moves.now.line ∷ []) _ c.in-Ok.ensures c.put_ended.ensures

pub returns-in-Err : goal.returns-in-Err
returns-in-Err g c = lines_stop _ _ (block_lines c.args.path c.args.moves.now c.args.before.now c.args.after.now) (Ended c.args.path c.args.moves.now.line ∷ []) _ c.in-Err.ensures
