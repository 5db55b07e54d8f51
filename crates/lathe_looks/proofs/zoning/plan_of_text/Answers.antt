-- For the proof of `plan_of_text` (src/zoning.rt), if it fails: the first bad line is told, and if
-- memory ran out nothing is.
use Rattle.std.proofs.Common.{subst}
use Rattle.nc_number.specs.declared.fault.Failing.TheVariants.{Fault}
use Rattle.nc_number.specs.Answers.{FailsBy}
use Rattle.zone_cell.specs.Faults.{fault_line}
use Rattle.zone_cell.specs.Plans.{plan_of}
use Rattle.lathe_calls.proofs.Ended.{ends_just, ends_untold}
use Rattle.zone_calls.specs.Zoned.{bad_zones, unread_zones}
use Rattle.lathe_looks.proofs.zoning.plan_of_text.Goals as goal

pub returns-in-Err-Fault-clause-told : goal.returns-in-Err-Fault-clause-told
returns-in-Err-Fault-clause-told g c =
    let fails : FailsBy fault_line (Fault c.in-Err-Fault.fault) (plan_of c.args.text.now) =
    subst (λ e. FailsBy fault_line e (plan_of c.args.text.now)) c.in-Err-Fault.field-0-is c.in-Err-Fault.ensures.exact in
    ends_just _ _ (bad_zones fails) c.tell_bad_zone.ensures

pub returns-in-Err-NoMemory-clause-told : goal.returns-in-Err-NoMemory-clause-told
returns-in-Err-NoMemory-clause-told g c = ends_untold _ unread_zones
