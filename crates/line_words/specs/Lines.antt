-- Where a line begins and ends, and words that say a thing twice. src/places.rt and src/twice.rt
-- compute it. The letters are bytes: 85 U, 87 W, 88 X, 90 Z.
use Rattle.std.specs.Prelude.{ℕ, ◌&&◌, List, Option, Some, None, if◌then◌else◌}
use Rattle.nc_number.specs.declared.point.Point.{Point}
use Rattle.nc_number.specs.Position.{is_position}
use Rattle.nc_number.specs.Options.{◌>>=◌}
use Rattle.line_text.specs.declared.body.Word.{Word}
use Rattle.plain_form.specs.declared.scene.Scene.{Scene}
use Rattle.plain_form.specs.declared.cause.PlainCause.{PlainCause}
use Rattle.plain_form.specs.declared.cause.PlainCause.TheVariants as cause
use Rattle.cycle_words.specs.Numbers.{is_said, place_said}

-- the point, if it may be a position
abbrev pub position_of : Point → Option Point
position_of p = if is_position p then Some p else None

-- where the tool stands, if it is known and may be a position
abbrev pub begin_of : Scene → Option Point
begin_of scene = do
  x ← scene.x
  z ← scene.z
  position_of (record { x = x; z = z })

-- where the line that the words say ends, if that may be a position
abbrev pub end_of : Point → List Word → Option Point
end_of from words = position_of (record { x = place_said 88 85 from.x words; z = place_said 90 87 from.z words })

-- that there is a word of the second letter beside one of the first
abbrev pub twice_of : ℕ → ℕ → List Word → Option PlainCause
twice_of one other words = if is_said one words && is_said other words then Some (cause.Unexpected other) else None
