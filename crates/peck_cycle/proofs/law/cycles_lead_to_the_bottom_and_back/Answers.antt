-- To the bottom, and back (`cycles_lead_to_the_bottom_and_back`, src/law.rt).
use Rattle.peck_cycle.proofs.LeadBack.{to_bottom, to_level, to_start}
use Rattle.peck_cycle.proofs.law.cycles_lead_to_the_bottom_and_back.Goals as goal

pub returns-clause-bottom : goal.returns-clause-bottom
returns-clause-bottom c = to_bottom

pub returns-clause-back : goal.returns-clause-back
returns-clause-back c = to_level

pub returns-clause-home : goal.returns-clause-home
returns-clause-home c = to_start
