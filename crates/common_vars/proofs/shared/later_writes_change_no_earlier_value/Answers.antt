-- Writes by later records change no value that a shared variable holds after the records before
-- them (a law of src/shared.rt).
use Rattle.common_vars.proofs.Laws.{earlier_value_stays}
use Rattle.common_vars.proofs.shared.later_writes_change_no_earlier_value.Goals as goal

pub returns : goal.returns
returns c = earlier_value_stays
