-- The refusal of a cycle is told as that of the expansion (`bad_cycle`, src/expand.rt).
use Rattle.tape_expand.proofs.Answered.{cycle_fails}
use Rattle.tape_expand.proofs.expand.bad_cycle.Goals as goal

pub returns-in-Fault : goal.returns-in-Fault
returns-in-Fault c = λ parts fails. cycle_fails c.args.fault c.in-Fault.fault parts c.in-Fault.is fails

pub returns-in-NoMemory : goal.returns-in-NoMemory
returns-in-NoMemory c = λ parts fails. tt
