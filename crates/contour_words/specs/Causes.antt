-- Why the words of a block of a contour are refused. src/causes.rt computes it. 85 is the letter U,
-- 87 W, 88 X, 90 Z.
use Rattle.std.specs.Prelude.{ℕ, Bool, ◌&&◌, List, Option, Some, None, Result, Ok, Err, ℤ, if◌then◌else◌}
use Rattle.line_text.specs.declared.body.Word.{Word}
use Rattle.plain_form.specs.declared.cause.PlainCause.{PlainCause}
use Rattle.plain_form.specs.declared.cause.PlainCause.TheVariants as cause
use Rattle.plain_form.specs.declared.cause.PlainFault.{PlainFault}
use Rattle.cycle_words.specs.Causes.{first_cause, calculated_in, unexpected_in}
use Rattle.cycle_words.specs.Numbers.{is_said}
use Rattle.contour_words.specs.Tempos.{tempo_cause}

-- the fault of a line
abbrev pub fault : ℕ → PlainCause → PlainFault
fault line why = record { line = line; cause = why }

-- refuses a line for a cause, if there is one
abbrev pub refuse : ℕ → Option PlainCause → Result (Unit {0}) PlainFault
refuse line (Some why) = Err (fault line why)
refuse line None = Ok tt

-- that a letter stands beside another one, of which only one may be there
abbrev pub beside_cause : ℕ → ℕ → List Word → Option PlainCause
beside_cause own by words = if is_said own words && is_said by words then Some (cause.Unexpected by) else None

-- that an axis is named both by its place and by its way
abbrev pub place_cause : List Word → Option PlainCause
place_cause words = first_cause (beside_cause 88 85 words) (beside_cause 90 87 words)

-- why the words of a block are refused, of which these letters are taken and these codes
abbrev pub words_cause : List ℕ → List ℤ → List Word → Option PlainCause
words_cause letters codes words =
    first_cause (unexpected_in letters codes words)
    (first_cause (calculated_in letters words) (first_cause (place_cause words) (tempo_cause words)))
