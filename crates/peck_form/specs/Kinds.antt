-- The kinds of holes, by their codes. src/kind.rt reads them. The letters are bytes: 85 U, 87 W, 88 X,
-- 90 Z.
use Rattle.std.specs.Prelude.{ℕ, Bool, true, false, ◌||◌, List, [], ◌∷◌, Option, Some, None, ℤ, pos, if◌then◌else◌}
use Rattle.code_tables.specs.declared.system.System.{System}
use Rattle.code_tables.specs.declared.system.System.TheVariants.{A, B}
use Rattle.line_text.specs.declared.body.Word.{Word}
use Rattle.nc_text.specs.declared.tape.Block.{Block}
use Rattle.peck_cycle.specs.declared.along.Along.{Along}
use Rattle.peck_cycle.specs.declared.along.Along.TheVariants.{Z, X}
use Rattle.peck_cycle.specs.declared.drill.ReturnLevel.{ReturnLevel}
use Rattle.peck_cycle.specs.declared.drill.ReturnLevel.TheVariants.{Start, PointR}
use Rattle.plain_form.specs.Said.{has_code}
use Rattle.cycle_words.specs.Scenes.{words_of, has_motion}
use Rattle.peck_form.specs.declared.kind.HoleKind.{HoleKind}
use Rattle.peck_form.specs.declared.kind.HoleKind.TheVariants.{Drill, Tap, Bore}
use Rattle.peck_form.specs.declared.kind.HoleCode.{HoleCode}
use Rattle.peck_form.specs.declared.kind.HoleCode.TheVariants.{DrillZ, TapZ, BoreZ, DrillX, TapX, BoreX}

-- what a code does to a hole, along which axis, and its number in millionths
abbrev pub kind_of : HoleCode → HoleKind
kind_of DrillZ = Drill
kind_of TapZ = Tap
kind_of BoreZ = Bore
kind_of DrillX = Drill
kind_of TapX = Tap
kind_of BoreX = Bore

abbrev pub along_of : HoleCode → Along
along_of DrillZ = Z
along_of TapZ = Z
along_of BoreZ = Z
along_of DrillX = X
along_of TapX = X
along_of BoreX = X

abbrev pub number_of : HoleCode → ℤ
number_of DrillZ = pos 83000000
number_of TapZ = pos 84000000
number_of BoreZ = pos 85000000
number_of DrillX = pos 87000000
number_of TapX = pos 88000000
number_of BoreX = pos 89000000

-- the code of holes in X, and of all
abbrev pub hole_code_in_x : List Word → Option HoleCode
hole_code_in_x words =
    if has_code (pos 87000000) words
    then Some DrillX
    else if has_code (pos 88000000) words
    then Some TapX
    else if has_code (pos 89000000) words
    then Some BoreX
    else None

abbrev pub hole_code : List Word → Option HoleCode
hole_code words =
    if has_code (pos 83000000) words
    then Some DrillZ
    else if has_code (pos 84000000) words
    then Some TapZ
    else if has_code (pos 85000000) words
    then Some BoreZ
    else hole_code_in_x words

-- two axes are not the same
abbrev pub are_two : Along → Along → Bool
are_two Z Z = false
are_two Z X = true
are_two X Z = true
are_two X X = false

-- the code in force in a run after words: another one of its axis takes the place of the one before
abbrev pub code_by : HoleCode → HoleCode → HoleCode
code_by before code = if are_two (along_of before) (along_of code) then before else code

abbrev pub code_or : HoleCode → Option HoleCode → HoleCode
code_or before None = before
code_or before (Some code) = code_by before code

abbrev pub code_said : HoleCode → List Word → HoleCode
code_said before words = code_or before (hole_code words)

-- a code of holes along the other axis
abbrev pub is_across : HoleCode → Option HoleCode → Bool
is_across code None = false
is_across code (Some other) = are_two (along_of code) (along_of other)

-- a block ends a run of holes
abbrev pub ends_run : HoleCode → System → List Word → Bool
ends_run code system words =
    if has_code (pos 80000000) words || has_motion system words then true else is_across code (hole_code words)

-- the level that words name in system B, or the one before
abbrev pub level_in_b : ReturnLevel → List Word → ReturnLevel
level_in_b before words =
    if has_code (pos 98000000) words then Start else if has_code (pos 99000000) words then PointR else before

abbrev pub level_said : System → ReturnLevel → List Word → ReturnLevel
level_said A before words = before
level_said B before words = level_in_b before words

-- the level that blocks name, after one before
abbrev pub level_from : System → ReturnLevel → List Block → ReturnLevel
level_from system level [] = level
level_from system level (block ∷ blocks) = level_from system (level_said system level (words_of block.body)) blocks

-- the letters of a place along an axis and of a way, and the axis beside it
abbrev pub letter_of_place : Along → ℕ
letter_of_place Z = 90
letter_of_place X = 88

abbrev pub letter_of_way : Along → ℕ
letter_of_way Z = 87
letter_of_way X = 85

abbrev pub other_axis : Along → Along
other_axis Z = X
other_axis X = Z
