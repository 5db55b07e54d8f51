-- Taking an item keeps the rule of the wire's channel: first in, first out (`await_on`,
-- src/wire.rt).
use Rattle.std.proofs.Common.{ap, ◌∙◌}
use Rattle.drive_line.proofs.Orders.{takes}
use Rattle.drive_line.proofs.wire.await_on.Goals as goal

pub recv_as-requires-clause-rule : goal.recv_as-requires-clause-rule
recv_as-requires-clause-rule g c = (takes _ _ (ap (λ v. v.takes) c.loop.invariant.3 ∙ c.requires.1), λ items views h at. tt)
