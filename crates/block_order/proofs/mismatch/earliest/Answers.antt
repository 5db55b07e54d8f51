-- The bottom of the stack is the loop opened first. For the contract of `earliest`
-- (src/mismatch.rt).
use Rattle.std.proofs.Common.{sym, ap, ◌∙◌}
use Rattle.std.specs.Option.{option_copied, option_map}
use Rattle.block_order.proofs.Seen.{open_loops-earliest}
use Rattle.block_order.proofs.mismatch.earliest.Goals as goal

pub returns-in_err-head : goal.returns-in_err-head
returns-in_err-head c =
    c.from_residual.ensures
    ∙ sym (open_loops-earliest c.args.stack.now
    ∙ ap (option_map (λ x. x.place)) (sym c.first.ensures.value ∙ ap option_copied c.in_err-head.was))

pub returns : goal.returns
returns c =
    sym (open_loops-earliest c.args.stack.now
    ∙ ap (option_map (λ x. x.place)) (sym c.first.ensures.value ∙ ap option_copied c.in_ok-head.was))
