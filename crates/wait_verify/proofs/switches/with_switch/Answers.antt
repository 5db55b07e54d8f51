-- `with_switch` sets one bit more (src/switches.rt).
use Rattle.std.proofs.Common.{bit_or, arith, ap}
use Rattle.std.proofs.lemmas.Nat.{one_shl}
use Rattle.wait_verify.proofs.switches.with_switch.Goals as goal

pub returns : goal.returns
returns c = ap (bit_or c.args.switches) (one_shl c.args.switch 16 (omega arith))
