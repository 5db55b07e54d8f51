-- Each common variable of a path holds what the latest write of it wrote (a law of src/own.rt).
use Rattle.common_vars.proofs.Laws.{latest_is_held}
use Rattle.common_vars.proofs.own.each_variable_holds_its_latest_write.Goals as goal

pub returns : goal.returns
returns c = latest_is_held
