-- Taking an item that is seen keeps the rule of the wire's channel: first in, first out (`look_on`,
-- src/wire.rt).
use Rattle.std.proofs.Common.{ap, ◌∙◌}
use Rattle.drive_line.proofs.Orders.{takes}
use Rattle.drive_line.proofs.wire.look_on.Goals as goal

pub try_recv_as-requires-clause-rule : goal.try_recv_as-requires-clause-rule
try_recv_as-requires-clause-rule g c = (takes _ _ (ap (λ v. v.takes) c.loop.invariant.1 ∙ c.requires.1), λ items views h at. tt)
