-- If no program is still to be made, the piece of what the block calls is kept, or it calls no loud
-- program. A loud program has a wait or an end, or calls one that has. For the contract of
-- `unknown_call` (src/calling.rt).
use Rattle.std.proofs.Common.{sym}
use Rattle.loud_calls.specs.Known.{piece_known}
use Rattle.loud_calls.proofs.Calls.{ready_by}
use Rattle.loud_calls.proofs.calling.unknown_call.Goals as goal

pub returns-in-Some-get-clause-none : goal.returns-in-Some-get-clause-none
returns-in-Some-get-clause-none g c =
    ready_by c.args.order.now (piece_known c.args.known.now) c.args.control.now c.in-Some.program c.in-Some-get.field-0.now
    c.in-Some.ensures.some (sym c.in-Some-get.ensures)

pub returns-in-None-clause-none : goal.returns-in-None-clause-none
returns-in-None-clause-none g c = λ p call. absurd (c.in-None.ensures.none p call)
