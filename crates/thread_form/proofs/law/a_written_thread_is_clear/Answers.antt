-- Each line has the blocks of a cycle (`a_written_thread_is_clear`, src/law.rt).
use Rattle.thread_form.proofs.WrittenThreads.{written_lines}
use Rattle.thread_form.proofs.law.a_written_thread_is_clear.Goals as goal

pub returns : goal.returns
returns c = written_lines
