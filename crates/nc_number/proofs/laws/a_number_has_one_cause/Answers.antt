-- No two alarms or refusals have one number, and each of them is a row of the table (a law of
-- src/laws.rt).
use Rattle.nc_number.proofs.CauseTable.{number_has_one_cause, cause_is_listed}
use Rattle.nc_number.proofs.laws.a_number_has_one_cause.Goals as goal

pub returns-clause-one : goal.returns-clause-one
returns-clause-one c = number_has_one_cause

pub returns-clause-listed : goal.returns-clause-listed
returns-clause-listed c = cause_is_listed
