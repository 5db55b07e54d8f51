-- What the worker's side of a line keeps holds still after the mark of a drain that got its answer,
-- and the line has no end yet (`LineIn::drain`, src/line_in.rt).
use Rattle.std.proofs.Common.{◌≡◌, false, ap, ◌∙◌}
use Rattle.drive_line.specs.Line.{has_end}
use Rattle.drive_line.proofs.Items.{kept_mark, open_mark}
use Rattle.drive_line.proofs.line_in.LineIn.drain.Goals as goal

pub invariant_of-self : goal.invariant_of-self
invariant_of-self g c =
    let open_ : has_end c.self.inside.forth.items ≡ false = ap (λ s. has_end s.items) c.self.view_is ∙ c.requires in
    let answers = c.await_answer.ensures.items in
    kept_mark _ _ _ _ _ answers.0 _ c.send.ensures.items answers.1 open_ c.self.invariant

pub returns-clause-open : goal.returns-clause-open
returns-clause-open g c =
    let open_ : has_end c.self.inside.forth.items ≡ false = ap (λ s. has_end s.items) c.self.view_is ∙ c.requires in
    open_mark _ _ _ c.send.ensures.items open_
