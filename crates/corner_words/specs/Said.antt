-- What a block of a run says. src/said.rt reads it. The letters are bytes: 70 F, 85 U, 87 W, 88 X, 90 Z,
-- and 97, 99 and 114 the a, c and r of ,A ,C and ,R.
use Rattle.std.specs.Prelude.{ℕ, List, [], ◌∷◌, codes, Option, Some, None, Result, Ok, Err, if◌then◌else◌, ℤ, pos, unsigned_abs, int_lt}
use Rattle.nc_number.specs.declared.point.Point.{Point}
use Rattle.nc_number.specs.Position.{IsPosition}
use Rattle.line_text.specs.declared.body.Word.{Word}
use Rattle.nc_text.specs.declared.tape.Block.{Block}
use Rattle.plain_form.specs.declared.cause.PlainCause.{PlainCause}
use Rattle.plain_form.specs.declared.cause.PlainCause.TheVariants as cause
use Rattle.plain_form.specs.declared.cause.PlainFault.{PlainFault}
use Rattle.cycle_words.specs.Numbers.{is_said, length_or, value_said}
use Rattle.cycle_words.specs.Causes.{first_cause, calculated_in, missing_of, unexpected_in}
use Rattle.cycle_words.specs.Scenes.{says_ends, words_of}
use Rattle.corner_words.specs.declared.said.CornerWord.{CornerWord}
use Rattle.corner_words.specs.declared.said.RunLine.{RunLine}
use Rattle.line_words.specs.declared.places.TheConstants.{LINE_CODE}
use Rattle.line_words.specs.Lines.{twice_of}
use Rattle.line_words.specs.Angled.{angle_cause, end_cause, line_end}

-- the letter by which the words name a corner
abbrev pub corner_letter : List Word → Option ℕ
corner_letter words = if is_said 99 words then Some 99 else if is_said 114 words then Some 114 else None

-- the letter of a word after a comma: of a corner, or of an angle
abbrev pub angle_or : List Word → Option ℕ → Option ℕ
angle_or words None = if is_said 97 words then Some 97 else None
angle_or words (Some letter) = Some letter

abbrev pub run_letter : List Word → Option ℕ
run_letter words = angle_or words (corner_letter words)

-- the corner of this letter
abbrev pub word_of : List Word → Option ℕ → Option CornerWord
word_of words None = None
word_of words (Some letter) = Some (record { letter = letter; size = unsigned_abs (length_or letter (pos 0) words) })

-- the corner that the words name
abbrev pub corner_word : List Word → Option CornerWord
corner_word words = word_of words (corner_letter words)

-- that the words say a thing in two ways
abbrev pub twice_cause : List Word → Option PlainCause
twice_cause words = first_cause (twice_of 88 85 words) (first_cause (twice_of 90 87 words) (first_cause (twice_of 99 114 words) (angle_cause words)))

-- that the size of a corner is not above 0
abbrev pub size_of : List Word → Option ℕ → Option PlainCause
size_of words None = None
size_of words (Some letter) = if int_lt (pos 0) (length_or letter (pos 0) words) then None else Some (cause.Range letter)

abbrev pub size_cause : List Word → Option PlainCause
size_cause words = size_of words (corner_letter words)

-- why the block is no line of a run
abbrev pub line_cause : List Word → Option PlainCause
line_cause words =
    first_cause
    (first_cause (unexpected_in (codes "GXZUWFcra") (LINE_CODE ∷ []) words) (calculated_in (codes "XZUWFcra") words))
    (first_cause (twice_cause words) (first_cause (missing_of (says_ends words) 88) (size_cause words)))

-- what the block says, if its line leads to a position
abbrev pub line_to : Block → Option Point → Result RunLine PlainFault
line_to block None = Err (record { line = block.line; cause = end_cause (words_of block.body) })
line_to block (Some to) = Ok (record {
  line = block.line;
  to = to;
  corner = corner_word (words_of block.body);
  feed = value_said 70 (words_of block.body);
})

-- what the block says, if it is a line of a run
abbrev pub line_by : Point → Block → Option PlainCause → Result RunLine PlainFault
line_by from block (Some why) = Err (record { line = block.line; cause = why })
line_by from block None = line_to block (line_end from (words_of block.body))

abbrev pub line_said : Point → Block → Result RunLine PlainFault
line_said from block = line_by from block (line_cause (words_of block.body))

-- the line leads to a position
abbrev pub LeadsToPosition : RunLine → Type 0
LeadsToPosition line = IsPosition line.to
