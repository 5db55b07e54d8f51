-- Refusals of a text at one of its lines.
use Rattle.std.specs.Prelude.{ℕ}
use Rattle.nc_number.specs.declared.cause.Cause.{Cause}
use Rattle.nc_number.specs.declared.refused.Refused.{Refused}
use Rattle.nc_number.specs.Causes.{cause_number}

-- the refusal with this cause at this line
abbrev pub refused_at : Cause → ℕ → Refused
refused_at cause line = record { number = cause_number cause; line = line }
