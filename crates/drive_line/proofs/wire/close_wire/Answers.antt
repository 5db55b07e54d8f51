-- The two ends may be put together, and then all that was sent is what was taken and what the
-- channel holds (`close_wire`, src/wire.rt).
use Rattle.std.proofs.Common.{rules}
use Rattle.drive_line.proofs.Orders.{joins, totals}
use Rattle.drive_line.proofs.wire.close_wire.Goals as goal

pub absorb-requires-clause-rule : goal.absorb-requires-clause-rule
absorb-requires-clause-rule g c = joins _ _ _ _ (search rules) (search rules)

pub learn_as-requires-clause-rule : goal.learn_as-requires-clause-rule
learn_as-requires-clause-rule g c = totals _ _ (search rules) (search rules)
