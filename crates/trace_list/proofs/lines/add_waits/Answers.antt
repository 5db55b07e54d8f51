-- For the proof of `add_waits` (src/lines.rt): the lines of both waits of a meeting are added to
-- the piece, and no more.
use Rattle.std.proofs.Common.{List, ℕ, ◌++◌, append_assoc, ap, ◌∙◌}
use Rattle.std.specs.Prelude.{codes}
use Rattle.text_pieces.specs.Pieces.{text_with_number}
use Rattle.trace_list.specs.TraceText.{waits_text}
use Rattle.trace_list.proofs.lines.add_waits.Goals as goal

pub returns-clause-text : goal.returns-clause-text
unfolding waits_text
returns-clause-text c =
    let one = text_with_number (codes " path 1 line ") c.args.lines.one in
    let two = text_with_number (codes " path 2 line ") c.args.lines.two in
    c.add.ensures.text
    ∙ ap (λ (t : List ℕ). t ++ codes "\n")
    ((rw c.from-2.ensures at c.add_numbered-2.ensures.text)
    ∙ ap (λ (t : List ℕ). t ++ two) (rw c.from.ensures at c.add_numbered.ensures.text) ∙ append_assoc c.args.piece.now one two)
    ∙ append_assoc c.args.piece.now (one ++ two) (codes "\n")
