-- The refusals of a tape's text in the table of causes. A new refusal needs its line here;
-- src/refusal.rt names what else it needs.
use Rattle.std.specs.Prelude.{ℕ}
use Rattle.nc_number.specs.declared.cause.Cause.{Cause}
use Rattle.nc_number.specs.declared.cause.Cause.TheVariants as causes
use Rattle.nc_number.specs.Causes.{cause_number}
use Rattle.line_text.specs.declared.refusal.Refusal.{Refusal}
use Rattle.line_text.specs.declared.refusal.Refusal.TheVariants.{TooManyDigits, BadCharacter, NoNumber, OpenComment, NoProgramNumber, NoEnd, LineTooLong, TooManyBlocks, TapeTooLong, WordRange}

-- the row of a refusal in nc_number's table of causes, which has its number and its name
abbrev pub cause_of : Refusal → Cause
cause_of TooManyDigits = causes.TooManyDigits
cause_of BadCharacter = causes.BadCharacter
cause_of NoNumber = causes.NoNumber
cause_of OpenComment = causes.OpenComment
cause_of NoProgramNumber = causes.NoProgramNumber
cause_of NoEnd = causes.NoEnd
cause_of LineTooLong = causes.LineTooLong
cause_of TooManyBlocks = causes.TooManyBlocks
cause_of TapeTooLong = causes.TapeTooLong
cause_of WordRange = causes.WordRange

-- the number under which a refusal is printed
abbrev pub refusal_number : Refusal → ℕ
refusal_number refusal = cause_number (cause_of refusal)
