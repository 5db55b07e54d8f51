-- The form of corners: what is answered of a block. src/form.rt makes the answer.
use Rattle.std.specs.Prelude.{ℕ, Bool, true, false, ◌||◌, List, [], drop, Option, Some, None, slice_get, if◌then◌else◌}
use Rattle.code_tables.specs.declared.kind.CodeKind.{CodeKind}
use Rattle.code_tables.specs.declared.kind.CodeKind.TheVariants.{Feed}
use Rattle.nc_number.specs.declared.point.Point.{Point}
use Rattle.line_text.specs.declared.body.Word.{Word}
use Rattle.nc_text.specs.declared.tape.Block.{Block}
use Rattle.plain_form.specs.declared.scene.Scene.{Scene}
use Rattle.plain_form.specs.declared.answer.FormAnswer.{FormAnswer}
use Rattle.plain_form.specs.declared.answer.FormAnswer.TheVariants.{NotMine, Refused}
use Rattle.plain_form.specs.declared.cause.PlainCause.{PlainCause}
use Rattle.plain_form.specs.declared.cause.PlainCause.TheVariants as cause
use Rattle.plain_form.specs.Said.{has_code}
use Rattle.cycle_words.specs.Causes.{first_cause}
use Rattle.cycle_words.specs.Scenes.{refused, way_cause, words_of}
use Rattle.corner_words.specs.declared.run.RunRead.{RunRead}
use Rattle.corner_words.specs.declared.run.RunRead.TheVariants.{Lines, Stops}
use Rattle.line_words.specs.declared.places.TheConstants.{LINE_CODE}
use Rattle.line_words.specs.Lines.{begin_of}
use Rattle.corner_words.specs.Said.{run_letter}
use Rattle.corner_words.specs.Run.{run_from}
use Rattle.corner_words.specs.Cut.{cut_from}

-- a block with an axis word cuts along a line
abbrev pub is_line : Option CodeKind → Bool
is_line None = false
is_line (Some Feed) = true
is_line (Some other) = false

-- that a word of this letter after a comma stands in a block that does not cut along a line
abbrev pub motion_cause : ℕ → Scene → List Word → Option PlainCause
motion_cause letter scene words =
    if has_code LINE_CODE words || is_line scene.motion then None else Some (cause.Unexpected letter)

-- why no run may begin here
abbrev pub begin_cause : ℕ → Scene → List Word → Option PlainCause
begin_cause letter scene words = first_cause (motion_cause letter scene words) (way_cause scene)

-- the answer to a run that was read
abbrev pub read_answer : Point → RunRead → FormAnswer
read_answer start (Lines lines) = cut_from start [] lines
read_answer start (Stops fault) = Refused fault

-- the answer to a run that begins in this line, from a point
abbrev pub run_answer : ℕ → Point → List Block → FormAnswer
run_answer line start blocks = read_answer start (run_from line start [] blocks)

-- the answer to a run, if it is known where the tool stands
abbrev pub start_answer : Block → List Block → Option Point → FormAnswer
start_answer block blocks None = refused block.line cause.Position
start_answer block blocks (Some start) = run_answer block.line start blocks

-- the answer to a run, if it may begin here
abbrev pub begin_by : Block → List Block → Scene → Option PlainCause → FormAnswer
begin_by block blocks scene (Some why) = refused block.line why
begin_by block blocks scene None = start_answer block blocks (begin_of scene)

-- the answer to a block with a word of this letter after a comma, with which these blocks begin
abbrev pub begin_answer : Block → ℕ → List Block → Scene → FormAnswer
begin_answer block letter blocks scene = begin_by block blocks scene (begin_cause letter scene (words_of block.body))

-- the answer to a block with such a word, if it has one
abbrev pub letter_answer : Block → List Block → Scene → Option ℕ → FormAnswer
letter_answer block blocks scene None = NotMine
letter_answer block blocks scene (Some letter) = begin_answer block letter blocks scene

-- the answer to a block of the program's
abbrev pub answer_at : List Block → ℕ → Scene → Option Block → FormAnswer
answer_at blocks place scene None = NotMine
answer_at blocks place scene (Some block) = letter_answer block (drop place blocks) scene (run_letter (words_of block.body))

-- what is answered of a block
abbrev pub corners_form : List Block → ℕ → Scene → FormAnswer
corners_form blocks place scene = answer_at blocks place scene (slice_get blocks place)
