-- The last loop of the stack is the latest open one. For the contract of `is_latest`
-- (src/mismatch.rt).
use Rattle.std.proofs.Common.{sym, ap, ◌∙◌}
use Rattle.std.specs.Option.{option_copied}
use Rattle.block_order.proofs.Seen.{latest-some, latest-none}
use Rattle.block_order.proofs.mismatch.is_latest.Goals as goal

pub returns-in-Some : goal.returns-in-Some
returns-in-Some c =
    latest-some c.args.stack.now c.args.name _ (sym c.last.ensures.value ∙ ap option_copied c.in-Some.is)

pub returns-in-None : goal.returns-in-None
returns-in-None c =
    latest-none c.args.stack.now c.args.name (sym c.last.ensures.value ∙ ap option_copied c.in-None.is)
