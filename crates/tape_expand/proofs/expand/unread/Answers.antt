-- The refusal of a text that is no tape is told as that of the expansion (`unread`, src/expand.rt).
use Rattle.tape_expand.proofs.Answered.{text_fails}
use Rattle.tape_expand.proofs.expand.unread.Goals as goal

pub returns-in-Fault : goal.returns-in-Fault
returns-in-Fault c = λ text tape fails. text_fails c.args.fault c.in-Fault.fault text tape c.in-Fault.is fails

pub returns-in-NoMemory : goal.returns-in-NoMemory
returns-in-NoMemory c = λ text tape fails. tt
