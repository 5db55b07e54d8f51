-- `order_of_path`: what `open_order` refuses is the refusal of the path's tape (src/tape.rt).
use Rattle.std.proofs.Common.{subst, sym}
use Rattle.nc_text.specs.Shape.{IsTapeShape}
use Rattle.block_order.specs.Answers.{IfFault}
use Rattle.open_order.specs.Exact.{IsRefused}
use Rattle.wait_verify.proofs.Refused.{order_refused}
use Rattle.wait_verify.proofs.tape.order_of_path.Goals as goal

pub returns-in-Err-Fault-clause-refused : goal.returns-in-Err-Fault-clause-refused
returns-in-Err-Fault-clause-refused c = λ skips text reads.
    let error = c.in-Err-Fault.field-0 in
    order_refused c.args.premises skips c.args.path text c.args.tape.now error c.in-Err-Fault.fault c.at_line.result
    c.in-Err-Fault.field-0-is reads
    (subst (λ programs. IfFault error (λ fault. IsRefused c.args.premises programs fault.line fault.number)) c.as_slice.ensures.value
    c.in-Err-Fault.ensures.refused)
    (rw c.in-Err-Fault.fault-is at c.at_line.ensures)
