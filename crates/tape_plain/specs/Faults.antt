-- The refusals of a tape that is to be written out, as src/fault.rt has them.
use Rattle.std.specs.Prelude.{ℕ}
use Rattle.nc_number.specs.declared.cause.Cause.TheVariants as cause
use Rattle.nc_number.specs.Causes.{cause_number}
use Rattle.tape_plain.specs.declared.fault.PlainTapeFault.{PlainTapeFault}
use Rattle.tape_plain.specs.declared.fault.PlainTapeFault.TheVariants.{BadSetting, Unreadable, NotPlain, TooLarge}

-- the number under which the refusal is printed
abbrev pub plain_number : PlainTapeFault → ℕ
plain_number (BadSetting line) = cause_number cause.BadSetting
plain_number (Unreadable fault) = fault.number
plain_number (NotPlain fault) = cause_number cause.NotPlain
plain_number (TooLarge line) = cause_number cause.TooLarge

-- the line that the refusal is about, from 1
abbrev pub plain_line : PlainTapeFault → ℕ
plain_line (BadSetting line) = line
plain_line (Unreadable fault) = fault.line
plain_line (NotPlain fault) = fault.line
plain_line (TooLarge line) = line
