-- The cause that a search finds for a number is the one of that number, or there is none: for the
-- name in the line of a verdict (src/writing.rt).
use Rattle.std.proofs.Common.{◌≡◌, ℕ, Option, Some, None}
use Rattle.std.specs.Prelude.{IfSome}
use Rattle.nc_number.specs.declared.cause.Cause.{Cause}
use Rattle.nc_number.specs.Causes.{cause_number}
use Rattle.nc_verify.specs.Printed.{IsCauseOf}

-- a search that finds a cause of this number, if there is one, gives the cause of the number
pub cause_named : (number : ℕ) (found : Option Cause) → IfSome found (λ cause. cause_number cause ≡ number)
    → ((cause : Cause) → cause_number cause ≡ number → found ≡ Some cause) → IsCauseOf number found
cause_named number None is found = λ cause e. absurd (let told : ◌≡◌ {A = Option Cause} None (Some cause) = found cause e in cc)
cause_named number (Some cause) is found = is
