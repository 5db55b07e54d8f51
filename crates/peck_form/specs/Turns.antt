-- The codes that turn the spindle of a tap about, and back. src/turns.rt makes their lines. 77 is the
-- letter M.
use Rattle.std.specs.Prelude.{ℕ, List, [], ◌∷◌, Option, Some, None, ℤ, pos}
use Rattle.nc_number.specs.Arithmetic.{value_of_units}
use Rattle.nc_text.specs.declared.tape.Block.{Block}
use Rattle.plain_form.specs.declared.settings.FormSettings.{FormSettings}
use Rattle.plain_form.specs.declared.settings.TapTurns.{TapTurns}
use Rattle.plain_form.specs.Made.{number_word, plain_line}
use Rattle.peck_form.specs.declared.kind.HoleKind.{HoleKind}
use Rattle.peck_form.specs.declared.kind.HoleKind.TheVariants.{Drill, Tap, Bore}
use Rattle.peck_form.specs.declared.turns.Turns.{Turns}

-- the number of an M code, if words can say it
abbrev pub code_value : ℕ → Option ℤ
code_value code = value_of_units (pos code)

-- the codes of a machine, as words say them
abbrev pub turns_by : Option TapTurns → Turns
turns_by None = record { about = None; back = None }
turns_by (Some codes) = record { about = code_value codes.reverse; back = code_value codes.forward }

abbrev pub turns_of : FormSettings → Turns
turns_of settings = turns_by settings.tap_turns

-- the block of an M code
abbrev pub spindle_lines : Option ℤ → List Block
spindle_lines None = []
spindle_lines (Some code) = plain_line (number_word 77 code ∷ []) ∷ []

-- that which turns the spindle of a tap
abbrev pub turn_lines : HoleKind → Option ℤ → List Block
turn_lines Drill code = []
turn_lines Tap code = spindle_lines code
turn_lines Bore code = []
