-- For the proof of this law (src/locking.rt): each command does with the journal what is said of it.
use Rattle.lathe_top.proofs.JournalUsed.{used_so}
use Rattle.lathe_top.proofs.locking.a_command_uses_the_journal_as_its_kind_does.Goals as goal

pub returns : goal.returns
returns c = used_so
