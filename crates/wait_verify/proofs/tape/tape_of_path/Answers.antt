-- `tape_of_path`: a line that does not read is the refusal of the path's tape (src/tape.rt).
use Rattle.wait_verify.proofs.Refused.{tape_refused}
use Rattle.wait_verify.proofs.tape.tape_of_path.Goals as goal

pub returns-in-Err-Fault-clause-refused : goal.returns-in-Err-Fault-clause-refused
returns-in-Err-Fault-clause-refused c = λ premises.
    tape_refused premises c.args.skips c.args.path c.args.text.now c.in-Err-Fault.field-0 c.in-Err-Fault.fault c.at_line.result
    c.in-Err-Fault.field-0-is c.in-Err-Fault.ensures (rw c.in-Err-Fault.fault-is at c.at_line.ensures)
