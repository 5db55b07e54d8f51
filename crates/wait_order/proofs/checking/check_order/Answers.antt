-- An order with a fault of waits has no earlier stage's fault, so that fault is the first of all.
-- For the contract of `check_order` (src/checking.rt).
use Rattle.std.proofs.Common.{subst}
use Rattle.block_order.specs.Faults.{Waiting, IsFirst}
use Rattle.block_order.proofs.Aimed.{first_of}
use Rattle.wait_order.proofs.checking.check_order.Goals as goal

pub returns-in-Ok-Some-clause-first : goal.returns-in-Ok-Some-clause-first
returns-in-Ok-Some-clause-first c =
    let fault = c.in-Ok-Some.fault in
    let told = c.in-Ok-Some.ensures in
    subst (λ tape. IsFirst tape fault.line fault.cause) c.in-Ok.ensures.same
    (first_of c.in-Ok.draft Waiting c.in-Ok-Some.field-0 fault (told.fits, told.finds) told.first c.in-Ok-Some.field-0-is)
