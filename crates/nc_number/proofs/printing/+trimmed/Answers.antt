-- What `trimmed` leaves is the digits without the zeros at their end, whether the last one is a
-- zero or not (src/printing.rt).
use Rattle.std.proofs.Common.{◌∙◌}
use Rattle.nc_number.proofs.TrailingZeros.{trims_zero, keeps_digit}
use Rattle.nc_number.proofs.printing.+trimmed.Goals as goal

pub returns-then-last-eq48-clause-digits : goal.returns-then-last-eq48-clause-digits
returns-then-last-eq48-clause-digits t c =
    c.trimmed.ensures.digits
    ∙ trims_zero c.args.digits.now c.in-Some.front.now c.in-Some.last.now c.in-Some.ensures.cases.0 c.if-last-eq48.true

pub returns-else-last-eq48-clause-digits : goal.returns-else-last-eq48-clause-digits
returns-else-last-eq48-clause-digits t c =
    keeps_digit c.args.digits.now c.in-Some.front.now c.in-Some.last.now c.in-Some.ensures.cases.0 c.if-last-eq48.false
