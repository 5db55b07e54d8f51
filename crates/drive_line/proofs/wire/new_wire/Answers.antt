-- A new channel keeps the rule of a wire, and so do its two ends once cut apart (`new_wire`,
-- src/wire.rt).
use Rattle.std.proofs.Common.{rules}
use Rattle.drive_line.proofs.Orders.{begins, cuts}
use Rattle.drive_line.proofs.wire.new_wire.Goals as goal

pub bounded_with-requires-clause-rule : goal.bounded_with-requires-clause-rule
bounded_with-requires-clause-rule g c = begins

pub another-other-requires-clause-rule : goal.another-other-requires-clause-rule
another-other-requires-clause-rule g c = cuts _ _ (search rules) (search rules)
