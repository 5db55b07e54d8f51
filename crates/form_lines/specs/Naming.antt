-- What a line of settings says of the forms, a definition for each name. src/naming.rt has a function
-- for each. 82 is the letter R, 88 X, 90 Z.
use Rattle.std.specs.Prelude.{ℕ, Bool, ◌&&◌, ◌==◌, List, [], ◌∷◌, Option, Some, None, Result, Ok, Err, codes, if◌then◌else◌, ℤ, pos, unsigned_abs, int_le}
use Rattle.std.specs.Char.{is_ascii_uppercase}
use Rattle.std.specs.Str.{bytes_eq}
use Rattle.nc_number.specs.declared.literal.Literal.{Literal}
use Rattle.nc_number.specs.declared.fault.NumberFault.{NumberFault}
use Rattle.nc_number.specs.declared.point.Point.{Point}
use Rattle.nc_number.specs.Position.{is_position}
use Rattle.nc_number.specs.Conversions.{thousandths_of}
use Rattle.nc_number.specs.Literals.{is_literal, word_literal}
use Rattle.nc_number.specs.Options.{◌>>=◌}
use Rattle.field_lines.specs.Field.{number_in}
use Rattle.field_lines.specs.Line.{line_says}
use Rattle.plain_form.specs.declared.settings.Roots.TheVariants.{Down, Up}
use Rattle.form_lines.specs.declared.choice.Choice.{Choice}
use Rattle.form_lines.specs.declared.choice.Choice.TheVariants as says

-- a length in 0.001 mm
unfoldable pub length_in : List ℕ → Option ℕ
length_in text = do
  n ← number_in 0 99999999 text
  Some n

-- what a name and a value say of roughing
unfoldable pub depth_of : List ℕ → Option Choice
depth_of value = do
  n ← length_in value
  Some (says.RoughDepth n)

unfoldable pub way_back : List ℕ → Option Choice
way_back value = do
  n ← length_in value
  Some (says.RoughRetreat n)

unfoldable pub rough_of : List ℕ → List ℕ → Option Choice
rough_of name value =
    if bytes_eq name (codes "depth") then depth_of value
    else (if bytes_eq name (codes "retreat") then way_back value else None)

-- what the values of the names of threads say
abbrev pub roots_of : List ℕ → Option Choice
roots_of value =
    if bytes_eq value (codes "down") then Some (says.ThreadRoots Down)
    else (if bytes_eq value (codes "up") then Some (says.ThreadRoots Up) else None)

unfoldable pub passes_of : List ℕ → Option Choice
passes_of value = do
  n ← number_in 1 99 value
  Some (says.ThreadPasses n)

unfoldable pub pull_out_of : List ℕ → Option Choice
pull_out_of value = do
  n ← number_in 0 99 value
  Some (says.ThreadPullOut n)

unfoldable pub angle_of : List ℕ → Option Choice
angle_of value = do
  n ← number_in 0 80 value
  Some (says.ThreadAngle n)

unfoldable pub least_of : List ℕ → Option Choice
least_of value = do
  n ← length_in value
  Some (says.ThreadLeast n)

unfoldable pub left_of : List ℕ → Option Choice
left_of value = do
  n ← length_in value
  Some (says.ThreadLeft n)

-- what a name and a value say of threads
unfoldable pub thread_of : List ℕ → List ℕ → Option Choice
thread_of name value =
    if bytes_eq name (codes "roots") then roots_of value
    else (if bytes_eq name (codes "passes") then passes_of value
    else (if bytes_eq name (codes "pullout") then pull_out_of value
    else (if bytes_eq name (codes "angle") then angle_of value
    else (if bytes_eq name (codes "least") then least_of value
    else (if bytes_eq name (codes "left") then left_of value
    else None)))))

-- what a name and a value say of pecks
unfoldable pub clearance_of : List ℕ → Option Choice
clearance_of value = do
  n ← length_in value
  Some (says.PeckClearance n)

unfoldable pub length_back : List ℕ → Option Choice
length_back value = do
  n ← length_in value
  Some (says.PeckRetreat (Some n))

unfoldable pub retreat_of : List ℕ → Option Choice
retreat_of value = if bytes_eq value (codes "level") then Some (says.PeckRetreat None) else length_back value

unfoldable pub peck_of : List ℕ → List ℕ → Option Choice
peck_of name value =
    if bytes_eq name (codes "clearance") then clearance_of value
    else (if bytes_eq name (codes "retreat") then retreat_of value else None)

-- what the value of `groove retreat` says
unfoldable pub groove_of : List ℕ → Option Choice
groove_of value = do
  n ← length_in value
  Some (says.GrooveRetreat n)

-- what three fields say
unfoldable pub three_say : List ℕ → List ℕ → List ℕ → Option Choice
three_say form name value =
    if bytes_eq form (codes "thread") then thread_of name value
    else (if bytes_eq form (codes "peck") then peck_of name value
    else (if bytes_eq form (codes "rough") then rough_of name value
    else (if bytes_eq form (codes "groove") && bytes_eq name (codes "retreat") then groove_of value
    else None)))

-- what the value of `idle` says: a letter
abbrev pub letter_of : List ℕ → Option Choice
letter_of (letter ∷ []) = if is_ascii_uppercase letter then Some (says.Idle letter) else None
letter_of _ = None

-- what two fields say
unfoldable pub two_say : List ℕ → List ℕ → Option Choice
two_say name value =
    if bytes_eq name (codes "idle") then letter_of value
    else (if bytes_eq name (codes "tap") && bytes_eq value (codes "none") then Some (says.TapCodes None)
    else None)

-- what the values of `tap codes` say
unfoldable pub turns_of : List ℕ → List ℕ → Option Choice
turns_of about back = do
  reverse ← number_in 0 99999999 about
  forward ← number_in 0 99999999 back
  Some (says.TapCodes (Some (record { reverse = reverse; forward = forward })))

-- the length that was read
abbrev pub length_read : Result Literal NumberFault → Option ℤ
length_read (Ok literal) = Some (thousandths_of literal)
length_read (Err fault) = None

-- the length in 0.001 mm that a literal writes
abbrev pub literal_length : List ℕ → Option ℤ
literal_length text = if is_literal text then length_read (word_literal text) else None

-- the length of a field that is this letter and a literal
abbrev pub length_at : ℕ → List ℕ → Option ℤ
length_at letter [] = None
length_at letter (first ∷ text) = if first == letter then literal_length text else None

-- a second reference position, if a machine can have it
abbrev pub reference_at : Point → Option Choice
reference_at at = if is_position at then Some (says.SecondHome at) else None

-- what the values of `second reference` say
unfoldable pub reference_said : List ℕ → List ℕ → Option Choice
reference_said across along = do
  x ← length_at 88 across
  z ← length_at 90 along
  reference_at (record { x = x; z = z })

-- what four fields say
unfoldable pub four_say : List ℕ → List ℕ → List ℕ → List ℕ → Option Choice
four_say form name about back =
    if bytes_eq form (codes "tap") && bytes_eq name (codes "codes") then turns_of about back
    else (if bytes_eq form (codes "second") && bytes_eq name (codes "reference") then reference_said about back
    else None)

-- the radius of a nose, if it is none below 0 and at most 1 m
abbrev pub radius_at_most : ℤ → Option ℕ
radius_at_most radius =
    if int_le (pos 0) radius && int_le radius (pos 1000000) then Some (unsigned_abs radius) else None

-- the radius of a nose of a field that is R and a literal
unfoldable pub radius_in : List ℕ → Option ℕ
radius_in field = do
  radius ← length_at 82 field
  radius_at_most radius

-- what the values of `nose` say
unfoldable pub nose_said : List ℕ → List ℕ → List ℕ → List ℕ → Option Choice
nose_said path offset radius tip = do
  p ← number_in 1 2 path
  o ← number_in 1 64 offset
  r ← radius_in radius
  t ← number_in 0 9 tip
  Some (says.ToolNose (record { offset = o; radius = r; tip = t }))

-- what five fields say
unfoldable pub five_say : List ℕ → List ℕ → List ℕ → List ℕ → List ℕ → Option Choice
five_say form path offset radius tip =
    if bytes_eq form (codes "nose") then nose_said path offset radius tip else None

-- what the fields of a line say of the forms, if they do
unfoldable pub choice_of : List (List ℕ) → Option Choice
choice_of (name ∷ value ∷ []) = two_say name value
choice_of (form ∷ name ∷ value ∷ []) = three_say form name value
choice_of (form ∷ name ∷ first ∷ second ∷ []) = four_say form name first second
choice_of (form ∷ path ∷ offset ∷ radius ∷ tip ∷ []) = five_say form path offset radius tip
choice_of _ = None

-- what a line says of the forms, if it does
abbrev pub line_choice : List ℕ → Option Choice
line_choice line = line_says choice_of line
