-- What is answered of a threading cycle. src/answers.rt makes it. 70 is the letter F, 73 I, 75 K, 80
-- P, 82 R, 88 X, 90 Z.
use Rattle.std.specs.Prelude.{ℕ, Bool, true, false, List, [], ◌∷◌, ◌++◌, Option, Some, None, unwrap_or, if◌then◌else◌}
use Rattle.nc_text.specs.declared.tape.Block.{Block}
use Rattle.plain_block.specs.declared.block.PlainBlock.{PlainBlock}
use Rattle.plain_form.specs.declared.answer.FormAnswer.{FormAnswer}
use Rattle.plain_form.specs.declared.answer.FormAnswer.TheVariants.{Written}
use Rattle.plain_form.specs.declared.answer.WrittenLine.{WrittenLine}
use Rattle.plain_form.specs.declared.cause.PlainCause.{PlainCause}
use Rattle.plain_form.specs.declared.cause.PlainCause.TheVariants.{Range, Setting, Start, Passes}
use Rattle.thread_cycle.specs.declared.cycle.ThreadCycle.{ThreadCycle}
use Rattle.thread_cycle.specs.declared.fault.ThreadFault.{ThreadFault}
use Rattle.thread_cycle.specs.declared.fault.ThreadFault.TheVariants.{AllLeft, TooLarge, NoPass, NoLead, Short, Steep, BelowCrest}
use Rattle.thread_cycle.specs.Faults.{fault_of}
use Rattle.thread_cycle.specs.Passes.{thread_blocks}
use Rattle.plain_form.specs.declared.scene.Scene.{Scene}
use Rattle.cycle_words.specs.Motion.{code_lines}
use Rattle.cycle_words.specs.Scenes.{refused}
use Rattle.thread_form.specs.Coded.{coded_lines}
use Rattle.thread_form.specs.declared.answers.CycleLines.{CycleLines}
use Rattle.thread_form.specs.declared.answers.ThreadWords.{ThreadWords}
use Rattle.thread_form.specs.declared.answers.ThreadWords.TheVariants.{OfTwoLines, OfOneLine, OfRun}

-- the letter of the depth: a run has none, and its end alone may be too large
abbrev pub letter_of_depth : ThreadWords → ℕ
letter_of_depth OfTwoLines = 80
letter_of_depth OfOneLine = 75
letter_of_depth OfRun = 88

-- the letter of the taper
abbrev pub letter_of_taper : ThreadWords → ℕ
letter_of_taper OfTwoLines = 82
letter_of_taper OfOneLine = 73
letter_of_taper OfRun = 82

-- the letter of what leaves nothing to cut: in one line it is the depth
abbrev pub letter_of_left : ThreadWords → ℕ
letter_of_left OfTwoLines = 82
letter_of_left OfOneLine = 75
letter_of_left OfRun = 82

-- what a cause of a cycle is for its words
abbrev pub fault_cause : ThreadWords → ThreadFault → PlainCause
fault_cause words AllLeft = Range (letter_of_left words)
fault_cause words TooLarge = Range (letter_of_depth words)
fault_cause words NoPass = Setting
fault_cause words NoLead = Range 70
fault_cause words Short = Range 90
fault_cause words Steep = Range (letter_of_taper words)
fault_cause words BelowCrest = Start

-- the words of a G76
abbrev pub words_of_lines : Option ℕ → ThreadWords
words_of_lines (Some head) = OfTwoLines
words_of_lines None = OfOneLine

-- a cause is of the line with the choices of the passes
abbrev pub is_of_head : ThreadFault → Bool
is_of_head AllLeft = true
is_of_head TooLarge = false
is_of_head NoPass = true
is_of_head NoLead = false
is_of_head Short = false
is_of_head Steep = false
is_of_head BelowCrest = false

-- the line that a cause is of
abbrev pub fault_line : CycleLines → ThreadFault → ℕ
fault_line lines fault = if is_of_head fault then unwrap_or lines.head lines.body else lines.body

-- lines in place of the cycle's: all blocks stand for the first
abbrev pub lines_in_place : Option ℕ → List Block → List WrittenLine
lines_in_place None blocks = record { blocks = blocks } ∷ []
lines_in_place (Some line) blocks = record { blocks = blocks } ∷ record { blocks = [] } ∷ []

abbrev pub written : Option ℕ → List Block → FormAnswer
written head blocks = Written (lines_in_place head blocks)

-- the lines of a cycle's blocks, and that of the code in force before it
abbrev pub cycle_lines : Scene → List PlainBlock → List Block
cycle_lines scene blocks = coded_lines scene.system blocks ++ code_lines scene.motion

-- the blocks of a cycle in its place, or that they are too many
abbrev pub blocks_answer : CycleLines → Scene → Option (List PlainBlock) → FormAnswer
blocks_answer lines scene None = refused lines.body Passes
blocks_answer lines scene (Some blocks) = written lines.head (cycle_lines scene blocks)

-- what the cycle may not say, or its blocks
abbrev pub answer_by : CycleLines → Scene → Option ThreadFault → Option (List PlainBlock) → FormAnswer
answer_by lines scene (Some fault) blocks = refused (fault_line lines fault) (fault_cause (words_of_lines lines.head) fault)
answer_by lines scene None blocks = blocks_answer lines scene blocks

-- the answer to a G76
abbrev pub cycle_answer : CycleLines → Scene → ThreadCycle → FormAnswer
cycle_answer lines scene t = answer_by lines scene (fault_of t) (thread_blocks t)
