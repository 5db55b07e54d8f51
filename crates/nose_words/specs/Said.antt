-- What a block says while compensation is in force. src/said.rt reads it. The letters are bytes: 70 F,
-- 71 G, 85 U, 87 W, 88 X, 90 Z.
use Rattle.std.specs.Prelude.{ℕ, Bool, true, false, not, ◌&&◌, ◌||◌, List, [], ◌∷◌, codes, Option, Some, None, Result, Ok, Err, if◌then◌else◌, ℤ}
use Rattle.nc_number.specs.declared.point.Point.{Point}
use Rattle.nc_number.specs.Position.{IsPosition}
use Rattle.line_text.specs.declared.body.Word.{Word}
use Rattle.nc_text.specs.declared.tape.Block.{Block}
use Rattle.plain_form.specs.declared.cause.PlainCause.{PlainCause}
use Rattle.plain_form.specs.declared.cause.PlainCause.TheVariants as cause
use Rattle.plain_form.specs.Said.{has_code}
use Rattle.cycle_words.specs.Numbers.{is_said, value_said}
use Rattle.cycle_words.specs.Causes.{first_cause, calculated_in, unexpected_in}
use Rattle.cycle_words.specs.Scenes.{says_ends, words_of}
use Rattle.line_words.specs.declared.places.TheConstants.{LINE_CODE, RAPID_CODE}
use Rattle.line_words.specs.Lines.{twice_of}
use Rattle.line_words.specs.Angled.{angle_cause, end_cause, line_end}
use Rattle.nose_words.specs.declared.said.TheConstants.{OFF_CODE, LEFT_CODE, RIGHT_CODE}
use Rattle.nose_words.specs.declared.said.Pace.{Pace}
use Rattle.nose_words.specs.declared.said.Pace.TheVariants.{Rapid, Cut, Other}
use Rattle.nose_words.specs.declared.said.Stage.{Stage}
use Rattle.nose_words.specs.declared.said.Stage.TheVariants.{First, Lead, Contour, Off}
use Rattle.nose_words.specs.declared.said.Standing.{Standing}
use Rattle.nose_words.specs.declared.said.NoseLine.{NoseLine}
use Rattle.nose_words.specs.declared.said.BlockSaid.{BlockSaid}

-- the codes that a block may have
abbrev pub codes_at : Stage → List ℤ
codes_at First = RAPID_CODE ∷ LINE_CODE ∷ LEFT_CODE ∷ RIGHT_CODE ∷ []
codes_at Lead = RAPID_CODE ∷ LINE_CODE ∷ []
codes_at Contour = RAPID_CODE ∷ LINE_CODE ∷ OFF_CODE ∷ []
codes_at Off = RAPID_CODE ∷ LINE_CODE ∷ []

-- how a block with these words moves
abbrev pub pace_after : Pace → List Word → Pace
pace_after pace words = if has_code LINE_CODE words then Cut else if has_code RAPID_CODE words then Rapid else pace

-- that the words say a thing in two ways
abbrev pub twice_cause : List Word → Option PlainCause
twice_cause words =
    if has_code LEFT_CODE words && has_code RIGHT_CODE words
    then Some (cause.Unexpected 71)
    else first_cause (twice_of 88 85 words) (first_cause (twice_of 90 87 words) (angle_cause words))

-- the pace is that of a cut
abbrev pub is_cut : Pace → Bool
is_cut Rapid = false
is_cut Cut = true
is_cut Other = false

-- that a feed stands in a block that cuts nothing
abbrev pub feed_cause : Pace → List Word → Option PlainCause
feed_cause pace words =
    if is_said 70 words && not (is_cut pace && says_ends words) then Some (cause.Unexpected 70) else None

-- why the words are none of a run
abbrev pub words_cause : Stage → Pace → List Word → Option PlainCause
words_cause stage pace words =
    first_cause
    (first_cause (unexpected_in (codes "GXZUWFa") (codes_at stage) words) (calculated_in (codes "XZUWFa") words))
    (first_cause (twice_cause words) (feed_cause pace words))

-- which block comes next
abbrev pub is_first : Stage → Bool
is_first First = true
is_first other = false

abbrev pub is_contour : Stage → Bool
is_contour Contour = true
is_contour other = false

abbrev pub is_off : Stage → Bool
is_off Off = true
is_off other = false

-- a code of compensation alone stands before the next block
abbrev pub is_behind_code : Stage → Bool
is_behind_code First = false
is_behind_code Lead = true
is_behind_code Contour = false
is_behind_code Off = true

-- a line with these words leads off the contour
abbrev pub is_last : Stage → List Word → Bool
is_last stage words = is_off stage || has_code OFF_CODE words

-- a block with these words may have no axis
abbrev pub may_wait : Stage → List Word → Bool
may_wait stage words = is_first stage || (is_contour stage && has_code OFF_CODE words)

-- that a line moves by no code of a line, or that one of the contour is not cut
abbrev pub pace_cause : Stage → Bool → Pace → Option PlainCause
pace_cause stage last Cut = None
pace_cause stage last Rapid = if is_contour stage && not last then Some (cause.Missing 71) else None
pace_cause stage last Other = Some (cause.Missing 71)

-- what a line says that leads to a point
abbrev pub line_to : Block → Stage → Pace → Point → BlockSaid
line_to block stage pace to = record {
  line = Some (record {
    line = block.line;
    behind_code = is_behind_code stage;
    to = to;
    pace = pace;
    feed = value_said 70 (words_of block.body);
  });
  last = is_last stage (words_of block.body);
  behind = record { stage = Contour; pace = pace; from = to };
}

-- what a line says, if it leads to a position
abbrev pub line_by : Block → Stage → Pace → Option Point → Result BlockSaid PlainCause
line_by block stage pace None = Err (end_cause (words_of block.body))
line_by block stage pace (Some to) = Ok (line_to block stage pace to)

-- what a line says, if its pace is none that is refused
abbrev pub paced : Block → Standing → Pace → Option PlainCause → Result BlockSaid PlainCause
paced block standing pace (Some why) = Err why
paced block standing pace None = line_by block standing.stage pace (line_end standing.from (words_of block.body))

-- what a block says that has words of axes
abbrev pub line_at : Block → Standing → Pace → Result BlockSaid PlainCause
line_at block standing pace =
    paced block standing pace (pace_cause standing.stage (is_last standing.stage (words_of block.body)) pace)

-- which block comes behind a code of compensation alone
abbrev pub stage_behind : Stage → Stage
stage_behind First = Lead
stage_behind other = Off

-- what a block says that has none
abbrev pub wait_at : Block → Standing → Pace → Result BlockSaid PlainCause
wait_at block standing pace =
    if may_wait standing.stage (words_of block.body)
    then Ok (record {
      line = None;
      last = false;
      behind = record { stage = stage_behind standing.stage; pace = pace; from = standing.from };
    })
    else Err (cause.Missing 88)

-- what a block says whose words are those of a run
abbrev pub said_by : Block → Standing → Pace → Option PlainCause → Result BlockSaid PlainCause
said_by block standing pace (Some why) = Err why
said_by block standing pace None =
    if says_ends (words_of block.body) then line_at block standing pace else wait_at block standing pace

-- what a block of a run says, or why it is none of it, if it moves so
abbrev pub said_at : Block → Standing → Pace → Result BlockSaid PlainCause
said_at block standing pace = said_by block standing pace (words_cause standing.stage pace (words_of block.body))

abbrev pub block_said : Block → Standing → Result BlockSaid PlainCause
block_said block standing = said_at block standing (pace_after standing.pace (words_of block.body))

-- the line leads to a position
abbrev pub LeadsToPosition : NoseLine → Type 0
LeadsToPosition line = IsPosition line.to

-- a line, if there is one, leads to a position
abbrev pub LeadThere : Option NoseLine → Type 0
LeadThere None = Unit {0}
LeadThere (Some line) = LeadsToPosition line

-- what a block says leads to a position, and stands behind it at one
abbrev pub KeepsPosition : BlockSaid → Type 0
KeepsPosition said = LeadThere said.line × IsPosition said.behind.from
