-- For the proof of `put_offsets`: it puts the reference position of a path, and the shift with
-- which it begins; if the sink fails, a prefix of that (src/tracing.rt).
use Rattle.std.proofs.Common.{[], ◌∷◌}
use Rattle.path_state.specs.Looks.{shift_now}
use Rattle.trace_list.specs.TraceText.{Home, Shift}
use Rattle.trace_list.proofs.InParts.{lines_then, lines_stop}
use Rattle.trace_list.proofs.tracing.put_offsets.Goals as goal

pub returns-in-Ok : goal.returns-in-Ok
returns-in-Ok g c = lines_then _ _ _ (Home c.args.path c.args.home ∷ []) (Shift c.args.path 0 (shift_now c.args.at.now) ∷ []) _ c.in-Ok.ensures (rw (c.look_of.ensures) at c.put_first_shift.ensures)

pub returns-in-Err : goal.returns-in-Err
returns-in-Err g c = lines_stop _ _ (Home c.args.path c.args.home ∷ []) (Shift c.args.path 0 (shift_now c.args.at.now) ∷ []) _ c.in-Err.ensures
