-- The answer to a mark, the item by which a drain asks, is the one that was owed: the number of the
-- moves taken (`LineOut::answer`, src/line_out.rt).
use Rattle.std.proofs.Common.{◌≡◌, true, ap, ◌∙◌, subst}
use Rattle.drive_line.specs.Line.{Taking, IsTaking}
use Rattle.drive_line.proofs.Items.{answered}
use Rattle.drive_line.proofs.line_out.LineOut.answer.Goals as goal

pub invariant_of-self : goal.invariant_of-self
invariant_of-self g c =
    let i = c.self.inside in
    let asked : i.asked ≡ true = ap (λ (s : Taking). s.asked) c.self.view_is ∙ c.requires.asked in
    answered _ _ _ _ _ c.send.ensures.items (subst (λ b. IsTaking i.taken i.ended b i.forth.items i.back.items) asked c.self.invariant)
