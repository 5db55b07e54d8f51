-- What the two faults of waits deny: 65 is BranchAtWait, 66 is WaitTooDeep. A program is loud if it
-- comes to a wait or an end, itself or by its calls. A stretch is the blocks of a program up to and
-- with the next mark: a wait, an end, an M99 without P, or a call of a loud program
-- (block_order/specs/Loud). The law `a_tape_has_one_list_where_no_wait_is_at_fault` (src/order.rt)
-- is said by this; no other crate cites it.
use Rattle.std.specs.Prelude.{◌↔◌, List}
use Rattle.nc_number.specs.declared.cause.Cause.TheVariants.{BranchAtWait, WaitTooDeep}
use Rattle.block_order.specs.declared.program.ControlProgram.{ControlProgram}
use Rattle.block_order.specs.Order.{main_number}
use Rattle.block_order.specs.Labels.{Chain, IsStraight, IsUnforked}
use Rattle.block_order.specs.Faults.{IsClear, IsFreeOf, Waiting}

-- 65 says exactly that blocks stray, 66 exactly that calls go too deep, and without both the tape
-- has one list of labels.
pub record AreWaitFaultsExact (tape : List ControlProgram) : Type 0 where
  -- No block has 65 exactly if no jump, no end of a loop and no return leads from one stretch to
  -- another.
  pub strays : IsFreeOf tape BranchAtWait ↔ IsStraight tape
  -- No block has 66 exactly if no chain of nine calls of loud programs begins in the main program.
  pub deep : IsFreeOf tape WaitTooDeep ↔ (Chain tape 9 (main_number tape) → ⊥)
  -- No block has either exactly if the tape has one list of labels.
  pub both : IsClear tape Waiting ↔ IsUnforked tape
