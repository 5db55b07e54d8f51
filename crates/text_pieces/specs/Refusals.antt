-- How a refusal is printed that has no path: its number, its name, and the line of its text.
use Rattle.std.specs.Prelude.{ℕ, List, ◌++◌, Some, codes}
use Rattle.nc_number.specs.declared.cause.Cause.{Cause}
use Rattle.nc_number.specs.Causes.{cause_number}
use Rattle.text_pieces.specs.Pieces.{name_text, text_with_number}

-- the number and the name of a refusal, as `refused 95 NoMeeting`
unfoldable pub refusal_text : Cause → List ℕ
refusal_text cause = text_with_number (codes "refused ") (cause_number cause) ++ name_text (Some cause)

-- a refusal as a line of output
unfoldable pub refused_text : Cause → List ℕ
refused_text cause = refusal_text cause ++ codes "\n"

-- a refusal at a line of its text, as a line of output: `refused 91 BadEdit line 2`
unfoldable pub refused_line_text : Cause → ℕ → List ℕ
refused_line_text cause line = (refusal_text cause ++ text_with_number (codes " line ") line) ++ codes "\n"
