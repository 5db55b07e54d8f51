-- The nose of the tool in force. src/told.rt finds it. 84 is the letter T.
use Rattle.std.specs.Prelude.{ℕ, ◌*◌, ◌%◌, ◌≤◌, Bool, ◌&&◌, ◌==◌, nat_le, List, [], ◌∷◌, Option, Some, None, Result, Ok, Err, if◌then◌else◌}
use Rattle.plain_form.specs.declared.settings.Nose.{Nose}
use Rattle.plain_form.specs.declared.cause.PlainCause.{PlainCause}
use Rattle.plain_form.specs.declared.cause.PlainCause.TheVariants as cause
use Rattle.nose_words.specs.declared.told.Tip.{Tip}
use Rattle.nose_words.specs.declared.told.Told.{Told}
use Rattle.nose_words.specs.declared.told.Told.TheVariants.{Nothing, One, Several}
use Rattle.nose_words.specs.declared.told.TheConstants.{LARGEST_NOSE}

-- two noses have the same form
abbrev pub is_same_nose : Nose → Nose → Bool
is_same_nose one other = one.radius == other.radius && one.tip == other.tip

-- what is told with one nose more
abbrev pub met : Nose → Told → Told
met nose Nothing = One nose
met nose (One other) = if is_same_nose nose other then One other else Several
met nose Several = Several

-- what is told of an offset with one nose more, which may be that of another one
abbrev pub told_by : ℕ → Nose → Told → Told
told_by offset nose told = if nose.offset == offset then met nose told else told

-- what these noses tell of an offset, beside what is told so far
abbrev pub told_from : Told → ℕ → List Nose → Told
told_from told offset [] = told
told_from told offset (nose ∷ noses) = told_from (told_by offset nose told) offset noses

abbrev pub told_of : ℕ → List Nose → Told
told_of offset noses = told_from Nothing offset noses

-- a nose as its path needs it, if its radius is at most 1 m
abbrev pub tip_of : Nose → Option Tip
tip_of nose = if nat_le nose.radius LARGEST_NOSE then Some (record { radius = 2 * nose.radius; number = nose.tip }) else None

-- the nose that is told, if it is one
abbrev pub tip_told : Told → Option Tip
tip_told Nothing = None
tip_told (One nose) = tip_of nose
tip_told Several = None

-- the nose of an offset; offset 0 has a radius of 0
abbrev pub offset_tip : ℕ → List Nose → Option Tip
offset_tip offset noses = if offset == 0 then Some (record { radius = 0; number = 0 }) else tip_told (told_of offset noses)

-- the nose, or that no line of the settings tells it
abbrev pub tip_or : Option Tip → Result Tip PlainCause
tip_or None = Err cause.Setting
tip_or (Some tip) = Ok tip

-- the nose of the tool whose T word was the last one, or why it is not known
abbrev pub tool_tip : Option ℕ → List Nose → Result Tip PlainCause
tool_tip None noses = Err (cause.Missing 84)
tool_tip (Some tool) noses = tip_or (offset_tip (tool % 100) noses)

-- the radius is at most 1 m
abbrev pub IsSmall : Tip → Type 0
IsSmall tip = tip.radius ≤ 2000000
