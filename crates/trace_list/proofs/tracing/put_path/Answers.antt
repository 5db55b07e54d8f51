-- For the proof of `put_path`: it puts how a path begins; if the sink fails, a prefix of that
-- (src/tracing.rt).
use Rattle.std.proofs.Common.{[], ◌∷◌}
use Rattle.path_state.specs.Looks.{shift_now}
use Rattle.trace_list.specs.TraceText.{At, Home, Shift}
use Rattle.trace_list.proofs.InParts.{lines_then, lines_stop}
use Rattle.trace_list.proofs.tracing.put_path.Goals as goal

pub returns-in-Ok : goal.returns-in-Ok
returns-in-Ok g c = lines_then _ _ _ (At c.args.path c.args.at.now.position ∷ []) (Home c.args.path c.args.home ∷ Shift c.args.path 0 (shift_now c.args.at.now) ∷ []) _ (rw (c.position.ensures.position) at c.in-Ok.ensures) c.put_offsets.ensures

pub returns-in-Err : goal.returns-in-Err
returns-in-Err g c = lines_stop _ _ (At c.args.path c.args.at.now.position ∷ []) (Home c.args.path c.args.home ∷ Shift c.args.path 0 (shift_now c.args.at.now) ∷ []) _ (rw (c.position.ensures.position) at c.in-Err.ensures)
