-- `meeting_line`: the label and the line of each tape, piece by piece, are the line of the meeting
-- (src/printing.rt).
use Rattle.std.proofs.Common.{List, ℕ, ◌++◌, ap, codes, ◌∙◌}
use Rattle.text_pieces.specs.Pieces.{text_with_number}
use Rattle.wait_verify.specs.Printed.{label_text, meeting_text}
use Rattle.wait_verify.proofs.printing.meeting_line.Goals as goal

pub returns : goal.returns
unfolding meeting_text
returns c =
    let label = label_text c.args.one.now.label in
    let one = text_with_number (codes " path 1 line ") c.args.one.now.line in
    let two = text_with_number (codes " path 2 line ") c.args.two.now.line in
    c.add.ensures.text
    ∙ ap (λ (t : List ℕ). t ++ codes "\n")
    ((rw c.from-2.ensures at c.add_numbered-2.ensures.text)
    ∙ ap (λ (t : List ℕ). t ++ two)
    ((rw c.from.ensures at c.add_numbered.ensures.text)
    ∙ ap (λ (t : List ℕ). t ++ one) (c.add_label.ensures.text ∙ ap (λ (t : List ℕ). t ++ label) c.empty-piece.ensures)))
