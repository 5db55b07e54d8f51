-- After the record of the last write no value of a shared variable changes (a law of
-- src/shared.rt).
use Rattle.common_vars.proofs.Laws.{last_value_stays}
use Rattle.common_vars.proofs.shared.nothing_changes_behind_the_last_write.Goals as goal

pub returns : goal.returns
returns c = last_value_stays
