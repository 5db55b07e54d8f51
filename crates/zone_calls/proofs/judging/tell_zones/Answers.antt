-- For the proof of `tell_zones` (src/judging.rt): what the text asks for is due, or its first bad
-- line; if memory ran out nothing is told.
use Rattle.std.proofs.Common.{subst}
use Rattle.nc_number.specs.declared.fault.Failing.TheVariants.{Fault}
use Rattle.nc_number.specs.Answers.{FailsBy}
use Rattle.zone_cell.specs.Faults.{fault_line}
use Rattle.zone_cell.specs.Plans.{plan_of}
use Rattle.lathe_calls.proofs.Ended.{ends_by, ends_just, ends_untold}
use Rattle.zone_calls.specs.Due.{asked, bad_zones, unread_zones}
use Rattle.zone_calls.proofs.judging.tell_zones.Goals as goal

pub returns-in-Ok : goal.returns-in-Ok
returns-in-Ok g c = ends_by _ (λ answer is. asked c.in-Ok.ensures.exact is) c.judge_texts.ensures

pub returns-in-Err-Fault : goal.returns-in-Err-Fault
returns-in-Err-Fault g c =
    let fails : FailsBy fault_line (Fault c.in-Err-Fault.fault) (plan_of c.args.zones.now) =
    subst (λ e. FailsBy fault_line e (plan_of c.args.zones.now)) c.in-Err-Fault.field-0-is c.in-Err-Fault.ensures.exact in
    ends_just _ _ (bad_zones fails) (rw c.in-Err-Fault.field-0-is at c.tell_bad_zone.ensures)

pub returns-in-Err-NoMemory : goal.returns-in-Err-NoMemory
returns-in-Err-NoMemory g c = ends_untold _ unread_zones
