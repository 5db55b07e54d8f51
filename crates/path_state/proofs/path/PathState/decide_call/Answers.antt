-- `decide_call`: a macro call whose arguments are known opens the call, or raises the alarm of the
-- cause for which it leads nowhere (src/decision.rt).
use Rattle.std.proofs.Common.{Some}
use Rattle.path_state.proofs.Decided.{call_goes, call_stays}
use Rattle.path_state.proofs.path.PathState.decide_call.Goals as goal

pub returns-in-Ok : goal.returns-in-Ok
returns-in-Ok c =
    call_goes c.args.order.now c.args.self.now c.args.arguments c.args.program c.args.repeats _
    (rw (c.standing.ensures, c.in-Ok.is) at (c.route.ensures (Some c.args.arguments)))

pub returns-in-Err : goal.returns-in-Err
returns-in-Err c =
    rw c.of.ensures
    (call_stays c.args.order.now c.args.self.now c.args.arguments c.args.program c.args.repeats c.in-Err.cause
    (rw (c.standing.ensures, c.in-Err.is) at (c.route.ensures (Some c.args.arguments))))
