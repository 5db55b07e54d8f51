-- A write is seen by its variable from its stamp on, and by nothing else (src/shared.rt).
use Rattle.common_vars.proofs.Laws.{seen_from_its_stamp}
use Rattle.common_vars.proofs.shared.a_write_is_seen_from_its_stamp_on.Goals as goal

pub returns : goal.returns
returns c = seen_from_its_stamp
