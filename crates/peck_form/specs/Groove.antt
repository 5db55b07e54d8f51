-- What the lines of a G74 or G75 say, and what is answered. src/groove.rt reads them. The letters are
-- bytes: 80 P, 81 Q, 82 R, 85 U, 87 W, 88 X, 90 Z.
use Rattle.std.specs.Prelude.{ℕ, ◌*◌, Bool, true, false, not, ◌&&◌, ◌||◌, nat_le, List, [], ◌∷◌, ◌++◌, codes, Option, Some, None, ℤ, pos, unsigned_abs, if◌then◌else◌}
use Rattle.std.specs.Int.{is_negative}
use Rattle.code_tables.specs.declared.kind.CodeKind.{CodeKind}
use Rattle.nc_number.specs.declared.point.Point.{Point}
use Rattle.line_text.specs.declared.body.Word.{Word}
use Rattle.nc_text.specs.declared.tape.Block.{Block}
use Rattle.plain_block.specs.declared.block.PlainBlock.{PlainBlock}
use Rattle.peck_cycle.specs.declared.along.Along.{Along}
use Rattle.peck_cycle.specs.declared.along.Along.TheVariants.{Z, X}
use Rattle.peck_cycle.specs.declared.groove.GrooveCycle.{GrooveCycle}
use Rattle.peck_cycle.specs.declared.fault.PeckFault.{PeckFault}
use Rattle.peck_cycle.specs.declared.pecks.Retreat.TheVariants.{Short}
use Rattle.peck_cycle.specs.Faults.{groove_fault_of}
use Rattle.peck_cycle.specs.Grooves.{groove_blocks}
use Rattle.plain_form.specs.declared.scene.Scene.{Scene}
use Rattle.plain_form.specs.declared.answer.FormAnswer.{FormAnswer}
use Rattle.plain_form.specs.declared.answer.FormAnswer.TheVariants.{Written}
use Rattle.plain_form.specs.declared.answer.WrittenLine.{WrittenLine}
use Rattle.plain_form.specs.declared.cause.PlainCause.{PlainCause}
use Rattle.plain_form.specs.declared.cause.PlainCause.TheVariants as cause
use Rattle.plain_form.specs.Said.{has_code}
use Rattle.cycle_words.specs.Numbers.{length_said, length_or, count_or, value_said, place_said, size_or}
use Rattle.cycle_words.specs.Causes.{first_cause, calculated_in, no_count_in, unexpected_in}
use Rattle.cycle_words.specs.Lines.{lines_of}
use Rattle.cycle_words.specs.Motion.{scene_cause, code_lines}
use Rattle.cycle_words.specs.Scenes.{start_of, words_of, says_ends, refused}
use Rattle.line_words.specs.Lines.{twice_of}
use Rattle.peck_form.specs.Answers.{groove_cause}

-- the code of a groove along an axis, in millionths
abbrev pub groove_code : Along → ℤ
groove_code Z = pos 74000000
groove_code X = pos 75000000

-- how far the tool draws back: R of the first line, or as far as before it
abbrev pub retreat_of : ℕ → List Word → ℕ
retreat_of before head = size_or before (length_said 82 head)

-- the words are those of a first line
abbrev pub is_retreat_line : List Word → Bool
is_retreat_line words = (has_code (groove_code Z) words || has_code (groove_code X) words) && not (says_ends words)

-- how far it draws back after a block, and after blocks
abbrev pub retreat_said : ℕ → List Word → ℕ
retreat_said before words = if is_retreat_line words then retreat_of before words else before

abbrev pub retreat_from : ℕ → List Block → ℕ
retreat_from retreat [] = retreat
retreat_from retreat (block ∷ blocks) = retreat_from (retreat_said retreat (words_of block.body)) blocks

-- R is not negative
abbrev pub relief_cause : List Word → Option PlainCause
relief_cause words = if is_negative (length_or 82 (pos 0) words) then Some (cause.Range 82) else None

-- why the first line is refused
abbrev pub head_cause : Along → List Word → Option PlainCause
head_cause along head =
    first_cause (unexpected_in (codes "GR") (groove_code along ∷ []) head)
    (first_cause (calculated_in (codes "R") head) (relief_cause head))

-- an axis is named twice
abbrev pub twice_cause : List Word → Option PlainCause
twice_cause words = first_cause (twice_of 88 85 words) (twice_of 90 87 words)

-- why the second line is refused
abbrev pub body_cause : Along → Scene → List Word → Option PlainCause
body_cause along scene body =
    first_cause
    (first_cause (first_cause (unexpected_in (codes "GXUZWPQRF") (groove_code along ∷ []) body) (twice_cause body))
    (first_cause (calculated_in (codes "XUZWPQRF") body) (no_count_in (codes "PQ") body)))
    (first_cause (relief_cause body) (scene_cause scene))

-- the size of R of the second line
abbrev pub relief_of : List Word → ℕ
relief_of body = size_or 0 (length_said 82 body)

-- a radius as a diameter; one that no word can say stays as it is
abbrev pub doubled : ℕ → ℕ
doubled radius = if nat_le radius 1000000000000 then 2 * radius else radius

-- what the lines say of a groove along Z: pecks of Q, columns by P, which is a radius
abbrev pub along_z : ℕ → Point → List Word → GrooveCycle
along_z retreat start body = record {
  pecks = record {
    along = Z;
    level = start.z;
    bottom = place_said 90 87 start.z body;
    peck = count_or 81 0 body;
    back = retreat;
    retreat = Short;
  };
  from = start.x;
  to = place_said 88 85 start.x body;
  step = doubled (count_or 80 0 body);
  relief = doubled (relief_of body);
}

-- what they say of a groove in X: pecks of P, which is a radius, columns by Q
abbrev pub along_x : ℕ → Point → List Word → GrooveCycle
along_x retreat start body = record {
  pecks = record {
    along = X;
    level = start.x;
    bottom = place_said 88 85 start.x body;
    peck = doubled (count_or 80 0 body);
    back = doubled retreat;
    retreat = Short;
  };
  from = start.z;
  to = place_said 90 87 start.z body;
  step = count_or 81 0 body;
  relief = relief_of body;
}

-- what the lines say
abbrev pub groove_of : Along → ℕ → Point → List Word → GrooveCycle
groove_of Z retreat start body = along_z retreat start body
groove_of X retreat start body = along_x retreat start body

-- lines in place of the cycle's, of which there may be two: all blocks stand for the first
abbrev pub lines_in_place : Bool → List Block → List WrittenLine
lines_in_place true lines = record { blocks = lines } ∷ record { blocks = [] } ∷ []
lines_in_place false lines = record { blocks = lines } ∷ []

abbrev pub written : Bool → List Block → FormAnswer
written two lines = Written (lines_in_place two lines)

-- the lines of a groove's blocks with a feed, and that of the code in force before it
abbrev pub plain_lines : Option CodeKind → Option ℤ → List PlainBlock → List Block
plain_lines motion feed blocks = lines_of feed blocks ++ code_lines motion

-- the blocks of a groove in its lines, or that they are too many
abbrev pub blocks_answer : Block → Bool → Option CodeKind → Option (List PlainBlock) → FormAnswer
blocks_answer body two motion None = refused body.line cause.Passes
blocks_answer body two motion (Some blocks) = written two (plain_lines motion (value_said 70 (words_of body.body)) blocks)

-- what a groove may not say, or its blocks
abbrev pub answer_by : Along → Block → Bool → Option CodeKind → Option PeckFault → Option (List PlainBlock) → FormAnswer
answer_by along body two motion (Some fault) blocks = refused body.line (groove_cause along fault)
answer_by along body two motion None blocks = blocks_answer body two motion blocks

abbrev pub groove_lines : GrooveCycle → Block → Bool → Option CodeKind → FormAnswer
groove_lines groove body two motion = answer_by groove.pecks.along body two motion (groove_fault_of groove) (groove_blocks groove)

-- the answer to the line with the groove from a start
abbrev pub body_from : Along → ℕ → Block → Bool → Option CodeKind → Option Point → FormAnswer
body_from along retreat body two motion None = refused body.line cause.Position
body_from along retreat body two motion (Some start) = groove_lines (groove_of along retreat start (words_of body.body)) body two motion

-- the same, if the line is not refused
abbrev pub body_by : Along → ℕ → Block → Bool → Scene → Option PlainCause → FormAnswer
body_by along retreat body two scene (Some why) = refused body.line why
body_by along retreat body two scene None = body_from along retreat body two scene.motion (start_of scene)

abbrev pub body_answer : Along → ℕ → Block → Bool → Scene → FormAnswer
body_answer along retreat body two scene = body_by along retreat body two scene (body_cause along scene (words_of body.body))

-- the answer to a line with R, before this one
abbrev pub next_answer : Along → ℕ → Block → Block → Scene → FormAnswer
next_answer along retreat block next scene =
    if has_code (groove_code along) (words_of next.body)
    then body_answer along (retreat_of retreat (words_of block.body)) next true scene
    else refused block.line cause.NoForm

abbrev pub next_by : Along → ℕ → Block → Option Block → Scene → FormAnswer
next_by along retreat block None scene = refused block.line cause.NoForm
next_by along retreat block (Some next) scene = next_answer along retreat block next scene

-- the same, if the line with R is not refused
abbrev pub head_by : Along → ℕ → Block → Option Block → Scene → Option PlainCause → FormAnswer
head_by along retreat block next scene (Some why) = refused block.line why
head_by along retreat block next scene None = next_by along retreat block next scene

-- the answer to a block with G74 or G75, before this one, if the tool draws back so far before both
abbrev pub groove_answer : Along → ℕ → Block → Option Block → Scene → FormAnswer
groove_answer along retreat block next scene =
    if says_ends (words_of block.body)
    then body_answer along retreat block false scene
    else head_by along retreat block next scene (head_cause along (words_of block.body))
