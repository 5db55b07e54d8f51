-- The text with edits that `splice` makes byte by byte is the one that the definition makes line by
-- line (`edited`, src/edits.rt).
use Rattle.std.proofs.Common.{◌∙◌}
use Rattle.line_edits.proofs.ByLines.{by_lines}
use Rattle.line_edits.proofs.edits.edited.Goals as goal

pub returns : goal.returns
returns c = c.in_ok-bytes.ensures ∙ by_lines 1 c.args.edits.now c.args.text.now
