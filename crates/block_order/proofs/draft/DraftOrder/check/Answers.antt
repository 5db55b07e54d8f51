-- The first fault of the first stage that has one is the first of the tape. For the contract of
-- `check` (src/draft.rt).
use Rattle.std.proofs.Common.{subst}
use Rattle.block_order.specs.Faults.{Fitting, Finding}
use Rattle.block_order.specs.First.{IsFirstOf}
use Rattle.block_order.proofs.Aimed.{first_of}
use Rattle.block_order.proofs.draft.DraftOrder.check.Goals as goal

pub returns-in-Some-clause-first : goal.returns-in-Some-clause-first
returns-in-Some-clause-first c =
    let fits = subst (λ tape. IsFirstOf tape Fitting c.in_ok-fault.field-0) c.deref.ensures.value c.in_ok-fault.ensures in
    first_of c.args.programs.items Fitting c.in_ok-fault.field-0 c.in-Some.fault tt fits c.in-Some.is

pub returns-in-Some-finding_fault-clause-first : goal.returns-in-Some-finding_fault-clause-first
returns-in-Some-finding_fault-clause-first c =
    let fits = subst (λ tape. IsFirstOf tape Fitting c.in_ok-fault.field-0) c.deref.ensures.value c.in_ok-fault.ensures in
    let finds = subst (λ tape. IsFirstOf tape Finding c.finding_fault.result) c.deref-4.ensures.value c.finding_fault.ensures in
    first_of c.args.programs.items Finding c.finding_fault.result c.in-Some-finding_fault.fault
    (subst (IsFirstOf c.args.programs.items Fitting) c.in_default.is fits) finds c.in-Some-finding_fault.is
