-- Where a line ends that is given by its angle and one of its ends' coordinates. src/angled.rt computes
-- it. The letters are bytes: 85 U, 87 W, 88 X, 90 Z, and 97 the a of ,A.
use Rattle.std.specs.Prelude.{ℕ, ◌-◌, Bool, ◌&&◌, ◌||◌, nat_lt, List, Option, Some, None, if◌then◌else◌, ℤ, pos, neg_ℤ, ◌+ℤ◌, ◌-ℤ◌, ◌*ℤ◌, unsigned_abs, int_lt}
use Rattle.std.specs.Ordering.{int_eq}
use Rattle.nc_number.specs.declared.point.Point.{Point}
use Rattle.nc_number.specs.Options.{◌>>=◌}
use Rattle.line_text.specs.declared.body.Word.{Word}
use Rattle.plain_form.specs.declared.cause.PlainCause.{PlainCause}
use Rattle.plain_form.specs.declared.cause.PlainCause.TheVariants as cause
use Rattle.cycle_words.specs.Numbers.{is_said, length_or, place_said}
use Rattle.line_words.specs.declared.angle.Heading.{Heading}
use Rattle.line_words.specs.declared.angled.TheConstants.{TURN, FARTHEST}
use Rattle.line_words.specs.Angles.{direction_of, nearest}
use Rattle.line_words.specs.Lines.{end_of, position_of}

-- the words say where the line ends across, in X, and along, in Z
abbrev pub says_across : List Word → Bool
says_across words = is_said 88 words || is_said 85 words

abbrev pub says_along : List Word → Bool
says_along words = is_said 90 words || is_said 87 words

-- that an angle stands beside both ends
abbrev pub angle_cause : List Word → Option PlainCause
angle_cause words = if is_said 97 words && says_across words && says_along words then Some (cause.Unexpected 97) else None

-- the angle of so many 0.001 degrees, from 0 on, if it is at most a whole turn
abbrev pub angle_in : ℤ → Option ℕ
angle_in said =
    if nat_lt TURN (unsigned_abs said)
    then None
    else if int_lt said (pos 0) then Some (TURN - unsigned_abs said) else Some (unsigned_abs said)

-- how far a line of this direction goes across, as a diameter, while it goes so far along
abbrev pub across_by : ℤ → Heading → Option ℤ
across_by way heading =
    if int_eq heading.cosine (pos 0) then None else Some (nearest (pos 2 *ℤ way *ℤ heading.sine) heading.cosine)

-- how far it goes along while it goes so far across, as a diameter
abbrev pub along_by : ℤ → Heading → Option ℤ
along_by way heading =
    if int_eq heading.sine (pos 0) then None else Some (nearest (way *ℤ heading.cosine) (pos 2 *ℤ heading.sine))

-- a way, held within ten times the travel
abbrev pub held : ℤ → ℤ
held way = if int_lt FARTHEST way then FARTHEST else if int_lt way (neg_ℤ FARTHEST) then neg_ℤ FARTHEST else way

-- where a line of this direction ends whose end along is said
abbrev pub end_across : Point → Heading → List Word → Option Point
end_across from heading words = do
  level ← position_of (record { x = from.x; z = place_said 90 87 from.z words })
  way ← across_by (level.z -ℤ from.z) heading
  position_of (record { x = from.x +ℤ held way; z = level.z })

-- where it ends if its end across is said
abbrev pub end_along : Point → Heading → List Word → Option Point
end_along from heading words = do
  level ← position_of (record { x = place_said 88 85 from.x words; z = from.z })
  way ← along_by (level.x -ℤ from.x) heading
  position_of (record { x = level.x; z = from.z +ℤ held way })

-- where a line of this angle ends, of which one end is said
abbrev pub angled_by : Point → List Word → ℕ → Option Point
angled_by from words angle =
    if says_along words then end_across from (direction_of angle) words else end_along from (direction_of angle) words

-- the same, if there is an angle
abbrev pub angled_or : Point → List Word → Option ℕ → Option Point
angled_or from words None = None
angled_or from words (Some angle) = angled_by from words angle

-- where a line ends by its angle and the end that its words say
abbrev pub angled_end : Point → List Word → Option Point
angled_end from words = angled_or from words (angle_in (length_or 97 (pos 0) words))

-- where the line that the words say ends, if that may be a position
abbrev pub line_end : Point → List Word → Option Point
line_end from words = if is_said 97 words then angled_end from words else end_of from words

-- why a line has no end that may be a position
abbrev pub end_cause : List Word → PlainCause
end_cause words = if is_said 97 words then cause.Range 97 else cause.Range 88
