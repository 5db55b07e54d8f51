-- Sending an item keeps the rule of the wire's channel: first in, first out (`send_on`,
-- src/wire.rt).
use Rattle.std.proofs.Common.{ap, ◌∙◌}
use Rattle.drive_line.proofs.Orders.{sends}
use Rattle.drive_line.proofs.wire.send_on.Goals as goal

pub send_as-requires-clause-rule : goal.send_as-requires-clause-rule
send_as-requires-clause-rule g c = (sends _ _ _ _ (ap (λ v. v.sends) c.loop.invariant.3 ∙ c.requires.1), λ items views h at. tt)
