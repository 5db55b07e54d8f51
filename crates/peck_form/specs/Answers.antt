-- What a cause of a groove or a hole is for its words. src/answers.rt has it. 80 is the letter P, 81
-- Q, 82 R.
use Rattle.std.specs.Prelude.{ℕ}
use Rattle.peck_cycle.specs.declared.along.Along.{Along}
use Rattle.peck_cycle.specs.declared.along.Along.TheVariants.{Z, X}
use Rattle.peck_cycle.specs.declared.fault.PeckFault.{PeckFault}
use Rattle.peck_cycle.specs.declared.fault.PeckFault.TheVariants.{TooLarge, NoDepth, NoPeck, NoStep, WrongSide}
use Rattle.plain_form.specs.declared.cause.PlainCause.{PlainCause}
use Rattle.plain_form.specs.declared.cause.PlainCause.TheVariants.{Position, Range, Start}
use Rattle.peck_form.specs.Kinds.{letter_of_place, other_axis}

-- the letter of a step of a groove along an axis: P in X, Q in Z
abbrev pub letter_of_peck : Along → ℕ
letter_of_peck Z = 81
letter_of_peck X = 80

-- of a groove along an axis
abbrev pub groove_cause : Along → PeckFault → PlainCause
groove_cause along TooLarge = Position
groove_cause along NoDepth = Range (letter_of_place along)
groove_cause along NoPeck = Range (letter_of_peck along)
groove_cause along NoStep = Range (letter_of_peck (other_axis along))
groove_cause along WrongSide = Start

-- of a hole along an axis
abbrev pub hole_cause : Along → PeckFault → PlainCause
hole_cause along TooLarge = Position
hole_cause along NoDepth = Range (letter_of_place along)
hole_cause along NoPeck = Range 81
hole_cause along NoStep = Range 81
hole_cause along WrongSide = Range 82
