-- For the proof of `perform` (src/control.rt): each command does what is due to it, and leaves the
-- second disk alone unless it branches. A new command that makes a run needs its line here.
use Rattle.std.proofs.Common.{refl}
use Rattle.lathe_calls.proofs.Ended.{ends_by}
use Rattle.lathe_top.proofs.control.perform.Goals as goal

pub returns-in-Run : goal.returns-in-Run
returns-in-Run g c = rw c.in-Run.is (ends_by _ (λ answer due. (due, refl)) (rw c.names_of-names.ensures at c.run.ensures))

pub returns-in-Resume : goal.returns-in-Resume
returns-in-Resume g c = rw c.in-Resume.is (ends_by _ (λ answer due. ((due, refl), refl)) c.resume.ensures)

pub returns-in-Make : goal.returns-in-Make
returns-in-Make g c = rw c.in-Make.is (ends_by _ (λ answer due. ((due, refl), refl)) c.make.ensures)
