-- A jump fails for the cause that the program's tables tell, or leads to a block. For the contract
-- of `jump_fault` (src/finding.rt).
use Rattle.std.proofs.Common.{sym, ◌∙◌}
use Rattle.block_order.proofs.finding.jump_fault.Goals as goal

pub returns-in-Ok : goal.returns-in-Ok
returns-in-Ok c = λ bs t cause e.
    let clash = sym (sym (c.target.ensures bs t) ∙ c.in-Ok.is) ∙ e in absurd cc

pub returns-in-Err : goal.returns-in-Err
returns-in-Err c = λ bs t. sym (c.target.ensures bs t) ∙ c.in-Err.is
