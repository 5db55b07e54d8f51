-- `push_meetings` adds a line for each label up to the end of the shorter list; behind it no line
-- follows (src/printing.rt).
use Rattle.std.proofs.Common.{rules, ◌≤◌, ◌++◌, List, ℕ, min, length, drop, sym, ap, ◌∙◌}
use Rattle.std.proofs.lemmas.List.{append-nil}
use Rattle.wait_verify.proofs.Pieces.{no_more}
use Rattle.wait_verify.proofs.printing.push_meetings.Goals as goal

pub returns : goal.returns
returns c =
    let over : min (length c.args.left.now) (length c.args.right.now) ≤ c.loop-place.place = search rules in
    sym (append-nil c.loop-place.text.items)
    ∙ ap (λ (l : List ℕ). c.loop-place.text.items ++ l) (sym (no_more c.args.left.now c.args.right.now c.loop-place.place over))
    ∙ sym c.loop-place.invariant
