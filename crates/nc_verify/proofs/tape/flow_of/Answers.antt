-- `flow_of`: a text that does not read, or a tape that has no flow, is refused with its line and
-- number (src/tape.rt).
use Rattle.cell_settings.specs.View.{view}
use Rattle.nc_verify.proofs.Refused.{tape_refused, flow_refused}
use Rattle.nc_verify.proofs.tape.flow_of.Goals as goal

pub returns-in-Err-Fault-clause-refused : goal.returns-in-Err-Fault-clause-refused
returns-in-Err-Fault-clause-refused c =
    tape_refused (view c.args.settings.now) c.args.path c.args.text.now c.skips_of.result c.in-Err-Fault.field-0 c.in-Err-Fault.fault
    c.at_line.result c.in-Err-Fault.field-0-is c.skips_of.ensures c.in-Err-Fault.ensures
    (rw c.in-Err-Fault.fault-is at c.at_line.ensures)

pub returns-in-Err-Fault-compile-clause-refused : goal.returns-in-Err-Fault-compile-clause-refused
returns-in-Err-Fault-compile-clause-refused c =
    flow_refused (view c.args.settings.now) c.args.path c.args.text.now c.skips_of.result c.in-Ok.tape
    c.in-Err-Fault-compile.field-0 c.in-Err-Fault-compile.fault c.at_line-in-Err-Fault-compile.result
    c.in-Err-Fault-compile.field-0-is c.skips_of.ensures c.in-Ok.ensures c.in-Err-Fault-compile.ensures.refused
    (rw c.in-Err-Fault-compile.fault-is at c.at_line-in-Err-Fault-compile.ensures)
