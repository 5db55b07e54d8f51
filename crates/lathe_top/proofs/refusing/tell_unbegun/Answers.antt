-- For the proof of `tell_unbegun` (src/refusing.rt): each cause for which no journal is begun has
-- its text and its status.
use Rattle.lathe_calls.proofs.Ended.{ends_untold}
use Rattle.lathe_top.proofs.RunsBegun.{none_told}
use Rattle.lathe_top.proofs.refusing.tell_unbegun.Goals as goal

pub returns-in-DiskFault : goal.returns-in-DiskFault
returns-in-DiskFault g c = rw c.in-DiskFault.is c.write_text.ensures

pub returns-in-RunThere : goal.returns-in-RunThere
returns-in-RunThere g c = rw c.in-RunThere.is c.write_text-in-RunThere.ensures

pub returns-in-NoRun : goal.returns-in-NoRun
returns-in-NoRun g c = ends_untold _ (none_told c.args.fault c.in-NoRun.is)
