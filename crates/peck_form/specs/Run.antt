-- A run of holes: what each block of it is, and what is answered. src/run.rt makes the answer. The
-- letters are bytes: 71 G, 75 K, 81 Q.
use Rattle.std.specs.Prelude.{ℕ, zero, suc, Bool, true, false, not, ◌&&◌, ◌||◌, ◌==◌, nat_lt, List, [], ◌∷◌, ◌++◌, codes, Option, Some, None, ℤ, pos, if◌then◌else◌}
use Rattle.std.specs.List.{list_any, list_all}
use Rattle.code_tables.specs.declared.system.System.{System}
use Rattle.code_tables.specs.declared.system.System.TheVariants.{A, B}
use Rattle.line_text.specs.declared.body.Word.{Word}
use Rattle.nc_text.specs.declared.tape.Block.{Block}
use Rattle.plain_block.specs.declared.block.PlainBlock.{PlainBlock}
use Rattle.plain_block.specs.declared.course.Course.TheVariants.{Rapid}
use Rattle.plain_block.specs.Blocks.{across_to, along_to}
use Rattle.peck_cycle.specs.declared.along.Along.{Along}
use Rattle.peck_cycle.specs.declared.along.Along.TheVariants.{Z, X}
use Rattle.peck_cycle.specs.declared.drill.DrillCycle.{DrillCycle}
use Rattle.peck_cycle.specs.declared.drill.ReturnLevel.{ReturnLevel}
use Rattle.peck_cycle.specs.declared.drill.ReturnLevel.TheVariants.{Start, PointR}
use Rattle.peck_cycle.specs.declared.fault.PeckFault.{PeckFault}
use Rattle.peck_cycle.specs.Drills.{in_blocks, way_out}
use Rattle.peck_cycle.specs.Faults.{hole_fault_of}
use Rattle.plain_form.specs.declared.settings.FormSettings.{FormSettings}
use Rattle.plain_form.specs.declared.answer.FormAnswer.{FormAnswer}
use Rattle.plain_form.specs.declared.answer.FormAnswer.TheVariants.{Written}
use Rattle.plain_form.specs.declared.answer.WrittenLine.{WrittenLine}
use Rattle.plain_form.specs.declared.cause.PlainCause.{PlainCause}
use Rattle.plain_form.specs.declared.cause.PlainCause.TheVariants as cause
use Rattle.plain_form.specs.Said.{is_one_of}
use Rattle.plain_form.specs.Made.{made_word, plain_line}
use Rattle.cycle_words.specs.Numbers.{count_or, is_said}
use Rattle.cycle_words.specs.Causes.{first_cause, calculated_in, no_count_in, is_taken}
use Rattle.cycle_words.specs.Lines.{lines_of}
use Rattle.cycle_words.specs.Motion.{cuts_before, code_lines}
use Rattle.cycle_words.specs.Scenes.{words_of, says_ends, refused}
use Rattle.peck_form.specs.declared.turns.Turns.{Turns}
use Rattle.peck_form.specs.declared.kind.HoleCode.{HoleCode}
use Rattle.peck_form.specs.declared.kind.HoleKind.{HoleKind}
use Rattle.peck_form.specs.declared.kind.HoleKind.TheVariants.{Drill, Tap, Bore}
use Rattle.peck_form.specs.declared.hole.HoleSaid.{HoleSaid}
use Rattle.peck_form.specs.declared.run.HoleStep.{HoleStep}
use Rattle.peck_form.specs.declared.run.HoleStep.TheVariants.{Ends, Stops, Cuts}
use Rattle.peck_form.specs.declared.run.TheConstants.{MOST_REPEATS}
use Rattle.peck_form.specs.Answers.{hole_cause}
use Rattle.peck_form.specs.Groove.{twice_cause}
use Rattle.peck_form.specs.Holes.{hole_after, level_of, bottom_of, hole_to}
use Rattle.peck_form.specs.Turns.{turns_of, turn_lines}
use Rattle.peck_form.specs.Kinds.{kind_of, along_of, number_of, ends_run, letter_of_place, letter_of_way, other_axis}

-- why words are refused

-- the letters that a block of a run may have
abbrev pub letters_of : System → List ℕ
letters_of A = codes "GXUZWRQPFK"
letters_of B = codes "GXZRQPFK"

-- the machine moves neither X nor Z at words of a letter
abbrev pub is_idle : FormSettings → ℕ → Bool
is_idle settings letter = is_one_of settings.idle letter

-- a block of a run may not have the letter, and the first such letter
abbrev pub is_strange : List ℕ → FormSettings → ℕ → Bool
is_strange letters settings letter = not (is_one_of letters letter) && not (is_idle settings letter)

abbrev pub strange_letter : List ℕ → FormSettings → List Word → Option ℕ
strange_letter letters settings [] = None
strange_letter letters settings (word ∷ words) =
    if is_strange letters settings word.letter then Some word.letter else strange_letter letters settings words

-- a word moves neither X nor Z
abbrev pub has_idle : FormSettings → List Word → Bool
has_idle settings words = list_any (λ word. is_idle settings word.letter) words

-- the words name an axis, so that the block is a hole
abbrev pub names_axis : FormSettings → List Word → Bool
names_axis settings words = says_ends words || has_idle settings words

-- each code is that of the run, or a level of system B
abbrev pub known_codes : HoleCode → System → List ℤ
known_codes code A = number_of code ∷ []
known_codes code B = number_of code ∷ pos 98000000 ∷ pos 99000000 ∷ []

abbrev pub are_known : HoleCode → System → List Word → Bool
are_known code system words = list_all (is_taken (known_codes code system)) words

-- a letter or a code is strange to the run
abbrev pub strange_by : Option ℕ → Bool → Option PlainCause
strange_by (Some letter) known = Some (cause.Unexpected letter)
strange_by None known = if known then None else Some (cause.Unexpected 71)

abbrev pub strange_cause : HoleCode → System → FormSettings → List Word → Option PlainCause
strange_cause code system settings words = strange_by (strange_letter (letters_of system) settings words) (are_known code system words)

-- there are too many repeats, or each would lie farther beside
abbrev pub repeats_cause : Along → List Word → Option PlainCause
repeats_cause along words =
    if nat_lt MOST_REPEATS (count_or 75 1 words)
    then Some (cause.Range 75)
    else if nat_lt 1 (count_or 75 1 words) && is_said (letter_of_way (other_axis along)) words
    then Some (cause.Range 75)
    else None

-- a Q beside holes that have no pecks
abbrev pub kind_cause : HoleKind → List Word → Option PlainCause
kind_cause Drill words = None
kind_cause Tap words = if is_said 81 words then Some (cause.Unexpected 81) else None
kind_cause Bore words = if is_said 81 words then Some (cause.Unexpected 81) else None

-- words that the hole can't have: that Q, or an axis that is named twice
abbrev pub strange_words : HoleCode → List Word → Option PlainCause
strange_words code words = first_cause (kind_cause (kind_of code) words) (twice_cause words)

-- why the words of a block of a run can't be read
abbrev pub read_cause : HoleCode → System → FormSettings → List Word → Option PlainCause
read_cause code system settings words =
    first_cause (strange_cause code system settings words)
    (first_cause (strange_words code words)
    (first_cause (calculated_in (codes "XUZWRQPFK") words) (no_count_in (codes "QPK") words)))

-- a block names no axis, and so is no hole
abbrev pub axis_cause : FormSettings → List Word → Option PlainCause
axis_cause settings words = if names_axis settings words then None else Some cause.NoForm

-- why the words of a block of a run are refused
abbrev pub words_cause : HoleCode → System → FormSettings → List Word → Option PlainCause
words_cause code system settings words =
    first_cause (read_cause code system settings words) (first_cause (axis_cause settings words) (repeats_cause (along_of code) words))

-- lines

-- the lines of a hole with these ways in and out: the spindle of a tap turns about between them, and
-- back after them
abbrev pub hole_lines : HoleSaid → Turns → List PlainBlock → List PlainBlock → List Block
hole_lines said turns inside out =
    lines_of said.feed inside ++ (turn_lines (kind_of said.code) turns.about ++ (lines_of said.feed out ++ turn_lines (kind_of said.code) turns.back))

-- lines so many times
abbrev pub repeated : ℕ → List Block → List Block
repeated zero lines = []
repeated (suc n) lines = repeated n lines ++ lines

-- the words name a place beside the holes
abbrev pub says_beside : Along → List Word → Bool
says_beside along words = is_said (letter_of_place (other_axis along)) words || is_said (letter_of_way (other_axis along)) words

-- the rapid beside the holes
abbrev pub rapid_beside : Along → ℤ → PlainBlock
rapid_beside Z beside = across_to Rapid beside
rapid_beside X beside = along_to Rapid beside

-- its line, if the words name a place there
abbrev pub beside_lines : Along → ℤ → List Word → List Block
beside_lines along beside words = if says_beside along words then lines_of None (rapid_beside along beside ∷ []) else []

-- holes that are left by the feed to the point R leave G01 in force
abbrev pub leaves_feed : HoleKind → ReturnLevel → Bool
leaves_feed Drill returns = false
leaves_feed Tap Start = false
leaves_feed Tap PointR = true
leaves_feed Bore Start = false
leaves_feed Bore PointR = true

-- the block that puts G00 in force again after them, if it was before the run
abbrev pub rapid_lines : HoleSaid → List Block
rapid_lines said =
    if leaves_feed (kind_of said.code) said.returns && not (cuts_before said.motion)
    then plain_line (made_word 71 (codes "00") ∷ []) ∷ []
    else []

-- steps

-- the lines of a block's holes: the rapid beside them, the hole as often as it is repeated, and the
-- code in force before the run
abbrev pub block_lines : HoleSaid → Turns → ℤ → List PlainBlock → List PlainBlock → List Word → List Block
block_lines said turns beside inside out words =
    beside_lines (along_of said.code) beside words ++ (repeated (count_or 75 1 words) (hole_lines said turns inside out) ++ (rapid_lines said ++ code_lines said.motion))

-- a hole without a fault, with its ways in and out, or with too many pecks
abbrev pub cuts_by : HoleSaid → ℤ → FormSettings → Option (List PlainBlock) → List PlainBlock → List Word → HoleStep
cuts_by said beside settings None out words = Stops cause.Passes
cuts_by said beside settings (Some inside) out words = Cuts (block_lines said (turns_of settings) beside inside out words)

-- what a hole may not say, or its lines
abbrev pub fault_step : HoleSaid → ℤ → FormSettings → DrillCycle → List Word → Option PeckFault → HoleStep
fault_step said beside settings hole words (Some fault) = Stops (hole_cause (along_of said.code) fault)
fault_step said beside settings hole words None = cuts_by said beside settings (in_blocks hole) (way_out hole) words

-- the same, if the bottom is named
abbrev pub bottom_step : HoleSaid → ℤ → FormSettings → List Word → ℤ → Option ℤ → HoleStep
bottom_step said beside settings words level None = Stops (cause.Missing (letter_of_place (along_of said.code)))
bottom_step said beside settings words level (Some bottom) =
    fault_step said beside settings (hole_to said level bottom settings) words (hole_fault_of (hole_to said level bottom settings))

-- the same, if words can say the point R
abbrev pub level_step : HoleSaid → ℤ → FormSettings → List Word → Option ℤ → HoleStep
level_step said beside settings words None = Stops cause.Position
level_step said beside settings words (Some level) = bottom_step said beside settings words level (bottom_of said.bottom level)

-- the same, if the place beside is known
abbrev pub beside_step : HoleSaid → FormSettings → List Word → Option ℤ → HoleStep
beside_step said settings words None = Stops cause.Position
beside_step said settings words (Some beside) = level_step said beside settings words (level_of said)

abbrev pub said_step : HoleSaid → FormSettings → List Word → HoleStep
said_step said settings words = beside_step said settings words said.beside

-- the same, if the words are not refused
abbrev pub words_step : HoleSaid → FormSettings → List Word → Option PlainCause → HoleStep
words_step said settings words (Some why) = Stops why
words_step said settings words None = said_step said settings words

-- what a block is in the run, with what is in force after it
abbrev pub block_step : HoleSaid → System → FormSettings → List Word → HoleStep
block_step said system settings words =
    if ends_run said.code system words then Ends else words_step said settings words (words_cause said.code system settings words)

-- after a block of the run: it ends, it is refused, or it goes on with the block's lines
abbrev pub after_step : ℕ → List WrittenLine → HoleStep → (List WrittenLine → FormAnswer) → FormAnswer
after_step line done Ends further = Written done
after_step line done (Stops why) further = refused line why
after_step line done (Cuts blocks) further = further (done ++ record { blocks = blocks } ∷ [])

-- the answer to the blocks of a run that are left, after the lines so far
unfoldable pub run_from : List Block → System → FormSettings → HoleSaid → List WrittenLine → FormAnswer
run_from [] system settings said done = Written done
run_from (block ∷ blocks) system settings said done =
    after_step block.line done (block_step (hole_after said system (words_of block.body)) system settings (words_of block.body))
    (λ lines. run_from blocks system settings (hole_after said system (words_of block.body)) lines)
