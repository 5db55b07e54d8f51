-- The sum so far is the number that the digits so far write (loop of `number`, src/literal.rt).
use Rattle.std.proofs.Common.{◌≡◌, take}
use Rattle.std.specs.Str.Parse.{digits_value}
use Rattle.nc_number.proofs.literal.number.Given as goal

abbrev pub invariant-loop-digit : goal.invariant-loop-digit
invariant-loop-digit l = l.sum ≡ digits_value 10 (take l.digit-index l.digits)
