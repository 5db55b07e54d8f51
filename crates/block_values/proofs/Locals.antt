-- A number from 1 to 33 names the local variable of that number, whichever code system is in force.
-- For `variable_in` (src/readings.rt).
use Rattle.std.proofs.Common.{◌≡◌, ℕ, ◌≤◌, Some, ap}
use Rattle.common_vars.specs.declared.variable.Variable.TheVariants.{Local}
use Rattle.common_vars.proofs.VariableNumbers.{found_by_number}
use Rattle.modal_state.specs.View.{ModalView}
use Rattle.block_values.specs.Readings.{if_there, variable_in}

-- `#1` to `#33` are the local variables of these numbers, in code system A and in B
pub local_in : (modal : ModalView) (i : ℕ) → 1 ≤ i → i ≤ 33 → variable_in modal i ≡ Some (Local i)
local_in modal i low high = ap (if_there modal) (found_by_number (Local i) (low, high))
