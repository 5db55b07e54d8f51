-- For the proof of `weigh` (src/weighing.rt): the numbers are those of the verdict on the texts.
use Rattle.std.proofs.Common.{sym, ◌∙◌}
use Rattle.lathe_calls.proofs.WeighedTold.{weighed_accepted, weighed_lacking, weighed_refused, weighed_too_long}
use Rattle.lathe_calls.proofs.weighing.weigh.Goals as goal

pub returns-then-not-are_fit : goal.returns-then-not-are_fit
returns-then-not-are_fit c = weighed_too_long (sym c.are_fit.ensures ∙ c.if-not-are_fit.true) c.unrefused.ensures

pub returns-in-Ok : goal.returns-in-Ok
returns-in-Ok c = weighed_accepted (sym c.are_fit.ensures ∙ c.if-not-are_fit.false) c.in-Ok.ensures.accepted c.unrefused-in-Ok.ensures

pub returns-in-Err-Fault : goal.returns-in-Err-Fault
returns-in-Err-Fault c =
    weighed_refused c.in-Err-Fault.field-0 c.in-Err-Fault.refusal (sym c.are_fit.ensures ∙ c.if-not-are_fit.false)
    c.in-Err-Fault.ensures.refused c.in-Err-Fault.field-0-is c.refused_as.ensures

pub returns-in-Err-NoMemory : goal.returns-in-Err-NoMemory
returns-in-Err-NoMemory c = weighed_lacking (sym c.are_fit.ensures ∙ c.if-not-are_fit.false) c.unrefused-in-Err-NoMemory.ensures
