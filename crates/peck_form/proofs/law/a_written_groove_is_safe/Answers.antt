-- Each line goes, or has the blocks of a groove (`a_written_groove_is_safe`, src/law.rt).
use Rattle.peck_form.proofs.WrittenGrooves.{groove_lines}
use Rattle.peck_form.proofs.law.a_written_groove_is_safe.Goals as goal

pub returns : goal.returns
returns c = groove_lines
