-- What the worker's side keeps holds still once the end is sent: nothing follows it
-- (`LineIn::end_line`, src/line_in.rt).
use Rattle.std.proofs.Common.{◌≡◌, false, refl, ap, ◌∙◌}
use Rattle.drive_line.specs.Line.{has_end}
use Rattle.drive_line.proofs.Items.{kept_other}
use Rattle.drive_line.proofs.line_in.LineIn.end_line.Goals as goal

pub invariant_of-self : goal.invariant_of-self
invariant_of-self g c =
    let open_ : has_end c.self.inside.forth.items ≡ false = ap (λ s. has_end s.items) c.self.view_is ∙ c.requires in
    kept_other _ _ _ _ _ refl (λ k. refl) c.send.ensures.items open_ c.self.invariant
