-- For the proof of `put_meeting`: it puts that a path comes to its wait, and that both paths meet
-- there; if the sink fails, a prefix of that (src/blocks.rt).
use Rattle.std.proofs.Common.{[], ◌∷◌, ◌+◌}
use Rattle.nc_number.specs.Both.{of_path}
use Rattle.trace_list.specs.TraceText.{Met, Wait}
use Rattle.trace_list.proofs.InParts.{lines_then, lines_stop}
use Rattle.trace_list.proofs.blocks.put_meeting.Goals as goal

pub returns-in-Ok : goal.returns-in-Ok
returns-in-Ok g c = lines_then _ _ _ (Wait c.args.path (of_path c.args.before.now.lines c.args.path) c.args.code ∷ []) (Met (c.args.met + 1) c.args.code c.args.before.now.lines.one c.args.before.now.lines.two ∷ []) _ (rw (c.line.ensures) at c.in-Ok.ensures) c.put_met.ensures

pub returns-in-Err : goal.returns-in-Err
returns-in-Err g c = lines_stop _ _ (Wait c.args.path (of_path c.args.before.now.lines c.args.path) c.args.code ∷ []) (Met (c.args.met + 1) c.args.code c.args.before.now.lines.one c.args.before.now.lines.two ∷ []) _ (rw (c.line.ensures) at c.in-Err.ensures)
