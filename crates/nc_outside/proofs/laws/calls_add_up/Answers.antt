-- Two lists of calls of a stepper in a row answer for the turret what both do, and the last answer of the
-- second, or else of the first (src/laws.rt).
use Rattle.nc_outside.proofs.Listed.{told_by_both, last_of_both}
use Rattle.nc_outside.proofs.laws.calls_add_up.Goals as goal

pub returns-clause-told : goal.returns-clause-told
returns-clause-told c = told_by_both

pub returns-clause-last : goal.returns-clause-last
returns-clause-last c = last_of_both
