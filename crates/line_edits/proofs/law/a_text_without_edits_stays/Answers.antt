-- A text without edits is itself (src/law.rt).
use Rattle.line_edits.proofs.ByLines.{unedited}
use Rattle.line_edits.proofs.law.a_text_without_edits_stays.Goals as goal

pub returns : goal.returns
returns c = unedited 1
