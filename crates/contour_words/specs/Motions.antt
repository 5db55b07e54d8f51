-- How the blocks of a contour move. src/motion.rt computes it. 71 is the letter G.
use Rattle.std.specs.Prelude.{Bool, true, false, List, Option, Some, None, ℤ, pos, if◌then◌else◌}
use Rattle.std.specs.Ordering.{int_eq}
use Rattle.line_text.specs.declared.body.Word.{Word}
use Rattle.plain_form.specs.declared.said.Said.{Said}
use Rattle.plain_form.specs.declared.said.Said.TheVariants.{Nothing, Number, Calculated}
use Rattle.plain_form.specs.Said.{last_said}
use Rattle.contour_words.specs.declared.motion.Motion.{Motion}
use Rattle.contour_words.specs.declared.motion.Motion.TheVariants.{Rapid, Line, Round}

-- the motion of this code, in millionths, if the code is one of a contour
abbrev pub motion_of_code : ℤ → Option Motion
motion_of_code code =
    if int_eq code (pos 0)
    then Some Rapid
    else if int_eq code (pos 1000000)
    then Some Line
    else if int_eq code (pos 2000000)
    then Some (Round true)
    else if int_eq code (pos 3000000)
    then Some (Round false)
    else None

-- the motion that a G code says
abbrev pub motion_of : Said → Option Motion
motion_of Nothing = None
motion_of (Number literal) = motion_of_code literal.value
motion_of Calculated = None

-- the motion that the last G code of the words says, if it is one of a contour
abbrev pub motion_said : List Word → Option Motion
motion_said words = motion_of (last_said 71 words)

-- the motion that is said, or the one before
abbrev pub motion_or : Option Motion → Motion → Motion
motion_or (Some motion) before = motion
motion_or None before = before

-- how a block moves, which the block before it left so
abbrev pub motion_by : List Word → Motion → Motion
motion_by words before = motion_or (motion_said words) before
