-- What is cut of the lines of a run. src/cut.rt makes it. 88 is the letter X, and 114 the r of ,R.
use Rattle.std.specs.Prelude.{ℕ, Bool, ◌&&◌, ◌==◌, List, [], ◌∷◌, ◌++◌, Option, Some, None, Result, Ok, Err, if◌then◌else◌}
use Rattle.nc_number.specs.declared.point.Point.{Point}
use Rattle.nc_number.specs.Position.{is_position}
use Rattle.nc_text.specs.declared.tape.Block.{Block}
use Rattle.plain_block.specs.declared.course.Course.TheVariants.{Cut}
use Rattle.plain_block.specs.Blocks.{straight_to}
use Rattle.plain_block.specs.Places.{point_after}
use Rattle.plain_form.specs.declared.answer.FormAnswer.{FormAnswer}
use Rattle.plain_form.specs.declared.answer.FormAnswer.TheVariants.{Refused, Written}
use Rattle.plain_form.specs.declared.answer.WrittenLine.{WrittenLine}
use Rattle.plain_form.specs.declared.cause.PlainCause.{PlainCause}
use Rattle.plain_form.specs.declared.cause.PlainCause.TheVariants as cause
use Rattle.cycle_words.specs.Lines.{lines_of}
use Rattle.corner_form.specs.declared.corner.Corner.{Corner}
use Rattle.corner_form.specs.declared.corner.CornerBlocks.{CornerBlocks}
use Rattle.corner_form.specs.declared.corner.CornerKind.{CornerKind}
use Rattle.corner_form.specs.declared.corner.CornerKind.TheVariants.{Chamfer, Rounding}
use Rattle.corner_form.specs.declared.corner.CornerFault.{CornerFault}
use Rattle.corner_form.specs.declared.corner.CornerFault.TheVariants.{TooLarge, NoTurn, TooLong, Inexact}
use Rattle.corner_form.specs.Cuts.{blocks_of}
use Rattle.corner_words.specs.declared.said.CornerWord.{CornerWord}
use Rattle.corner_words.specs.declared.said.RunLine.{RunLine}
use Rattle.corner_words.specs.declared.cut.LineCut.{LineCut}
use Rattle.corner_words.specs.declared.cut.LineCut.TheVariants.{Whole, Cornered}

-- what a corner of this letter is
abbrev pub kind_of : ℕ → CornerKind
kind_of letter = if letter == 114 then Rounding else Chamfer

-- what the fault of a corner is for the word that names it
abbrev pub fault_cause : ℕ → CornerFault → PlainCause
fault_cause letter TooLarge = cause.Range letter
fault_cause letter NoTurn = cause.Corner
fault_cause letter TooLong = cause.Corner
fault_cause letter Inexact = cause.Corner

-- the corner between a line from where the tool is and the next one
abbrev pub corner_of : Point → RunLine → CornerWord → RunLine → Corner
corner_of tool line word next =
    record { from = tool; at = line.to; to = next.to; kind = kind_of word.letter; size = word.size }

-- the points of a corner may be positions
abbrev pub are_positions : Corner → Bool
are_positions corner = is_position corner.from && is_position corner.at && is_position corner.to

-- what a fault is for the letter
abbrev pub named : ℕ → Result CornerBlocks CornerFault → Result CornerBlocks PlainCause
named letter (Ok blocks) = Ok blocks
named letter (Err fault) = Err (fault_cause letter fault)

-- the blocks of a corner that this letter names, or why there are none
abbrev pub blocks_at : ℕ → Corner → Result CornerBlocks PlainCause
blocks_at letter corner = if are_positions corner then named letter (blocks_of corner) else Err (cause.Range 88)

-- the corner is cut
abbrev pub cornered : Result CornerBlocks PlainCause → Result LineCut PlainCause
cornered (Ok blocks) = Ok (Cornered blocks)
cornered (Err why) = Err why

-- what is cut of a line with a corner before the first of the lines behind it
abbrev pub corner_cut : Point → RunLine → CornerWord → List RunLine → Result LineCut PlainCause
corner_cut tool line word [] = Err cause.Corner
corner_cut tool line word (next ∷ rest) = cornered (blocks_at word.letter (corner_of tool line word next))

-- what is cut of a line, from where the tool is, or why it can't be
abbrev pub cut_by : Point → RunLine → List RunLine → Option CornerWord → Result LineCut PlainCause
cut_by tool line rest None = Ok Whole
cut_by tool line rest (Some word) = corner_cut tool line word rest

abbrev pub line_cut : Point → RunLine → List RunLine → Result LineCut PlainCause
line_cut tool line rest = cut_by tool line rest line.corner

-- where the tool is behind what is cut of a line
abbrev pub end_behind : LineCut → RunLine → Point
end_behind Whole line = line.to
end_behind (Cornered blocks) line = point_after line.to blocks.second

-- the blocks that are written of what is cut, with the feed of the line's block
abbrev pub blocks_by : LineCut → RunLine → List Block
blocks_by Whole line = lines_of line.feed (straight_to Cut line.to ∷ [])
blocks_by (Cornered blocks) line = lines_of line.feed (blocks.first ∷ blocks.second ∷ [])

abbrev pub written_line : LineCut → RunLine → WrittenLine
written_line cut line = record { blocks = blocks_by cut line }

-- what is made of what is cut of a line, if it can be
abbrev pub cut_on : RunLine → Result LineCut PlainCause → (LineCut → FormAnswer) → FormAnswer
cut_on line (Err why) next = Refused (record { line = line.line; cause = why })
cut_on line (Ok cut) next = next cut

-- what was written, and what is of the lines from here on, from where the tool is
abbrev pub cut_from : Point → List WrittenLine → List RunLine → FormAnswer
cut_from tool done [] = Written done
cut_from tool done (line ∷ rest) =
    cut_on line (line_cut tool line rest) (λ cut. cut_from (end_behind cut line) (done ++ written_line cut line ∷ []) rest)
