-- The lines that stand for those of a run. src/written.rt makes them. 88 is the letter X.
use Rattle.std.specs.Prelude.{List, [], ◌∷◌, ◌++◌, Option, Some, None, if◌then◌else◌}
use Rattle.nc_number.specs.declared.point.Point.{Point}
use Rattle.plain_block.specs.declared.block.PlainBlock.{PlainBlock}
use Rattle.plain_block.specs.declared.course.Course.{Course}
use Rattle.plain_block.specs.declared.course.Course.TheVariants as course
use Rattle.plain_block.specs.Blocks.{straight_to}
use Rattle.plain_form.specs.declared.answer.FormAnswer.{FormAnswer}
use Rattle.plain_form.specs.declared.answer.FormAnswer.TheVariants.{Refused, Written}
use Rattle.plain_form.specs.declared.answer.WrittenLine.{WrittenLine}
use Rattle.plain_form.specs.declared.cause.PlainCause.TheVariants as cause
use Rattle.plane_ways.specs.declared.place.Place.{Place}
use Rattle.plane_ways.specs.declared.place.Line.{Line}
use Rattle.cycle_words.specs.Lines.{lines_of}
use Rattle.nose_words.specs.declared.said.Pace.{Pace}
use Rattle.nose_words.specs.declared.said.Pace.TheVariants.{Rapid, Cut, Other}
use Rattle.nose_words.specs.declared.said.NoseLine.{NoseLine}
use Rattle.nose_words.specs.declared.told.Tip.{Tip}
use Rattle.nose_words.specs.declared.cut.LegCut.{LegCut}
use Rattle.nose_words.specs.Cut.{leg_cut}

-- the course of a line: all that do not cut are rapids
abbrev pub course_of : Pace → Course
course_of Rapid = course.Rapid
course_of Cut = course.Cut
course_of Other = course.Rapid

-- the empty line that stands for this line, if what is written stands in that of a code of compensation
-- alone before it
abbrev pub code_lines : NoseLine → List WrittenLine
code_lines line = if line.behind_code then record { blocks = [] } ∷ [] else []

-- what stands for a line that is written as these blocks
abbrev pub line_lines : NoseLine → List PlainBlock → List WrittenLine
line_lines line blocks = record { blocks = lines_of line.feed blocks } ∷ code_lines line

-- what stands for a line that leads to a point
abbrev pub whole_line : NoseLine → Point → List WrittenLine
whole_line line to = line_lines line (straight_to (course_of line.pace) to ∷ [])

-- what stands for a line whose leg is cut so
abbrev pub cut_line : NoseLine → LegCut → List WrittenLine
cut_line line cut =
    if cut.joins
    then line_lines line (straight_to course.Cut cut.from ∷ straight_to (course_of line.pace) cut.to ∷ [])
    else whole_line line cut.to

-- what was written, and the lines from here on, to the points as they are programmed
abbrev pub whole_from : List WrittenLine → List NoseLine → FormAnswer
whole_from done [] = Written done
whole_from done (line ∷ lines) = whole_from (done ++ whole_line line line.to) lines

-- what is made of what is cut of a line's leg
abbrev pub cut_on : NoseLine → Option LegCut → (LegCut → FormAnswer) → FormAnswer
cut_on line None next = Refused (record { line = line.line; cause = cause.Range 88 })
cut_on line (Some cut) next = next cut

-- what was written, and the lines from here on along these legs; the leg before ends at a place
abbrev pub written_from : Tip → Option Place → List WrittenLine → List NoseLine → List Line → FormAnswer
written_from tip at done [] legs = Written done
written_from tip at done (line ∷ lines) [] = Written done
written_from tip at done (line ∷ lines) (leg ∷ legs) =
    cut_on line (leg_cut tip at leg) (λ cut. written_from tip (Some leg.to) (done ++ cut_line line cut) lines legs)
