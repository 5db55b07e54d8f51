-- What the worker's side keeps holds still once it has sent that the path has ended, and the line
-- has no end yet (`LineIn::finish`, src/line_in.rt).
use Rattle.std.proofs.Common.{◌≡◌, false, refl, ap, ◌∙◌}
use Rattle.drive_line.specs.Line.{has_end}
use Rattle.drive_line.proofs.Items.{kept_other, open_finish}
use Rattle.drive_line.proofs.line_in.LineIn.finish.Goals as goal

pub invariant_of-self : goal.invariant_of-self
invariant_of-self g c =
    let open_ : has_end c.self.inside.forth.items ≡ false = ap (λ s. has_end s.items) c.self.view_is ∙ c.requires in
    kept_other _ _ _ _ _ refl (λ k. refl) c.send.ensures.items open_ c.self.invariant

pub returns-clause-open : goal.returns-clause-open
returns-clause-open g c =
    let open_ : has_end c.self.inside.forth.items ≡ false = ap (λ s. has_end s.items) c.self.view_is ∙ c.requires in
    open_finish _ _ c.send.ensures.items open_
