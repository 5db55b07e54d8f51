-- A move that is sent is counted, and the line has no end yet (`LineIn::send`, src/line_in.rt).
use Rattle.std.proofs.Common.{◌≡◌, false, ap, ◌∙◌}
use Rattle.drive_line.specs.Line.{has_end}
use Rattle.drive_line.proofs.Items.{kept_move, open_move}
use Rattle.drive_line.proofs.line_in.LineIn.send.Goals as goal

pub invariant_of-self : goal.invariant_of-self
invariant_of-self g c =
    let open_ : has_end c.self.inside.forth.items ≡ false = ap (λ s. has_end s.items) c.self.view_is ∙ c.requires in
    kept_move _ _ _ _ _ _ c.next_count-self-inside.ensures c.send.ensures.items open_ c.self.invariant

pub returns-clause-open : goal.returns-clause-open
returns-clause-open g c =
    let open_ : has_end c.self.inside.forth.items ≡ false = ap (λ s. has_end s.items) c.self.view_is ∙ c.requires in
    open_move _ _ _ c.send.ensures.items open_
