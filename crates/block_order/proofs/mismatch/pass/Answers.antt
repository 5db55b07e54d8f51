-- A head that is pushed is the latest open loop. For the contract of `pass` (src/mismatch.rt).
use Rattle.std.proofs.Common.{sym, ap, ◌∙◌}
use Rattle.block_order.specs.Misplaced.{open_loops}
use Rattle.block_order.specs.Loops.{open_behind}
use Rattle.block_order.proofs.Seen.{open_loops-push}
use Rattle.block_order.proofs.mismatch.pass.Goals as goal

pub returns-in_ok-push-in-While : goal.returns-in_ok-push-in-While
returns-in_ok-push-in-While c =
    ap open_loops c.in_ok-push-in-While.ensures.items ∙ open_loops-push c.args.stack.now.items _
    ∙ sym (ap (λ x. open_behind c.args.place x (open_loops c.args.stack.now.items)) c.in-While.is)

pub returns-in_ok-push-in-Do : goal.returns-in_ok-push-in-Do
returns-in_ok-push-in-Do c =
    ap open_loops c.in_ok-push-in-Do.ensures.items ∙ open_loops-push c.args.stack.now.items _
    ∙ sym (ap (λ x. open_behind c.args.place x (open_loops c.args.stack.now.items)) c.in-Do.is)
