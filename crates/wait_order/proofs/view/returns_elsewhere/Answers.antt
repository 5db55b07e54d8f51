-- In a program of one stretch no return leads elsewhere. A stretch is the run of blocks up to a
-- wait, an end, an M99 without a number, or a call that leads to a wait or an end. For the contract
-- of `returns_elsewhere` (src/view.rt).
use Rattle.wait_order.proofs.Elsewhere.{false_is_not_true}
use Rattle.wait_order.proofs.view.returns_elsewhere.Goals as goal

pub returns-then-is_one_stretch : goal.returns-then-is_one_stretch
returns-then-is_one_stretch c loud ways within =
    (λ t. absurd (false_is_not_true t), λ r. absurd (c.is_one_stretch.ensures loud ways c.args.place r.0 within c.if-is_one_stretch.true r.2))
