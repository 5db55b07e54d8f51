-- The form of compensation of the nose radius: what is answered of a block. src/form.rt makes the answer.
use Rattle.std.specs.Prelude.{ℕ, ◌==◌, List, [], ◌∷◌, ◌++◌, drop, Option, Some, None, Result, Ok, Err, slice_get, if◌then◌else◌}
use Rattle.code_tables.specs.declared.kind.CodeKind.{CodeKind}
use Rattle.code_tables.specs.declared.kind.CodeKind.TheVariants as kind
use Rattle.nc_number.specs.declared.point.Point.{Point}
use Rattle.line_text.specs.declared.body.Word.{Word}
use Rattle.nc_text.specs.declared.tape.Block.{Block}
use Rattle.plane_ways.specs.declared.place.Side.{Side}
use Rattle.plane_ways.specs.declared.place.Side.TheVariants.{Left, Right}
use Rattle.plain_form.specs.declared.scene.Scene.{Scene}
use Rattle.plain_form.specs.declared.settings.FormSettings.{FormSettings}
use Rattle.plain_form.specs.declared.answer.FormAnswer.{FormAnswer}
use Rattle.plain_form.specs.declared.answer.FormAnswer.TheVariants.{NotMine, Refused}
use Rattle.plain_form.specs.declared.cause.PlainCause.{PlainCause}
use Rattle.plain_form.specs.declared.cause.PlainCause.TheVariants as cause
use Rattle.plain_form.specs.Said.{has_code}
use Rattle.cycle_words.specs.Scenes.{refused, way_cause, words_of}
use Rattle.line_words.specs.Lines.{begin_of}
use Rattle.nose_words.specs.declared.said.TheConstants.{LEFT_CODE, RIGHT_CODE}
use Rattle.nose_words.specs.declared.said.Pace.{Pace}
use Rattle.nose_words.specs.declared.said.Pace.TheVariants.{Rapid, Cut, Other}
use Rattle.nose_words.specs.declared.said.Stage.TheVariants.{First}
use Rattle.nose_words.specs.declared.said.Standing.{Standing}
use Rattle.nose_words.specs.declared.said.NoseLine.{NoseLine}
use Rattle.nose_words.specs.declared.run.RunRead.{RunRead}
use Rattle.nose_words.specs.declared.run.RunRead.TheVariants as run
use Rattle.nose_words.specs.declared.path.PathRead.{PathRead}
use Rattle.nose_words.specs.declared.path.PathRead.TheVariants as path
use Rattle.nose_words.specs.declared.told.Tip.{Tip}
use Rattle.nose_words.specs.Run.{run_from}
use Rattle.nose_words.specs.Told.{tool_tip}
use Rattle.nose_words.specs.Path.{run_path}
use Rattle.nose_words.specs.Written.{whole_from, written_from}

-- on which side of the contour the tool is from a block with these words on
abbrev pub side_in : List Word → Option Side
side_in words = if has_code LEFT_CODE words then Some Left else if has_code RIGHT_CODE words then Some Right else None

-- how a block with an axis word moves under a code of motion
abbrev pub pace_under : CodeKind → Pace
pace_under kind.Rapid = Rapid
pace_under kind.Feed = Cut
pace_under other = Other

abbrev pub pace_of : Option CodeKind → Pace
pace_of None = Other
pace_of (Some code) = pace_under code

-- where a run stands before its first block
abbrev pub standing_of : Scene → Point → Standing
standing_of scene start = record { stage = First; pace = pace_of scene.motion; from = start }

-- the answer to a run of these lines, of which the last leads off their contour
abbrev pub path_answer : Tip → PathRead → List NoseLine → FormAnswer
path_answer tip (path.Legs legs) lines = written_from tip None [] lines legs
path_answer tip (path.Stops fault) lines = Refused fault

-- the answer to a run that was read, from a point
abbrev pub whole_run : Side → Tip → Point → List NoseLine → NoseLine → FormAnswer
whole_run side tip start lines off =
    if tip.radius == 0
    then whole_from [] (lines ++ off ∷ [])
    else path_answer tip (run_path side tip start lines off) (lines ++ off ∷ [])

abbrev pub read_answer : Side → Tip → Point → RunRead → FormAnswer
read_answer side tip start (run.Whole lines off) = whole_run side tip start lines off
read_answer side tip start (run.Stops fault) = Refused fault

-- the answer to a run that begins with the first of these blocks, in this line of the tape
abbrev pub start_answer : ℕ → Side → Tip → Standing → List Block → FormAnswer
start_answer line side tip standing blocks = read_answer side tip standing.from (run_from line standing [] blocks)

-- the answer to a run of the tool with this nose, if it is known
abbrev pub tip_answer : Block → Side → List Block → Scene → Point → Result Tip PlainCause → FormAnswer
tip_answer block side blocks scene start (Err why) = refused block.line why
tip_answer block side blocks scene start (Ok tip) = start_answer block.line side tip (standing_of scene start) blocks

-- the answer to a run, if it is known where the tool stands
abbrev pub from_answer : Block → Side → List Block → Scene → FormSettings → Option Point → FormAnswer
from_answer block side blocks scene settings None = refused block.line cause.Position
from_answer block side blocks scene settings (Some start) =
    tip_answer block side blocks scene start (tool_tip scene.tool settings.noses)

-- the answer to a run, if lengths can be read
abbrev pub begin_by : Block → Side → List Block → Scene → FormSettings → Option PlainCause → FormAnswer
begin_by block side blocks scene settings (Some why) = refused block.line why
begin_by block side blocks scene settings None = from_answer block side blocks scene settings (begin_of scene)

-- the answer to a block with G41 or G42, with which these blocks begin
abbrev pub begin_answer : Block → Side → List Block → Scene → FormSettings → FormAnswer
begin_answer block side blocks scene settings = begin_by block side blocks scene settings (way_cause scene)

-- the answer to a block that says a side, if it does
abbrev pub side_answer : Block → List Block → Scene → FormSettings → Option Side → FormAnswer
side_answer block blocks scene settings None = NotMine
side_answer block blocks scene settings (Some side) = begin_answer block side blocks scene settings

-- the answer to a block of the program's
abbrev pub answer_at : List Block → ℕ → Scene → FormSettings → Option Block → FormAnswer
answer_at blocks place scene settings None = NotMine
answer_at blocks place scene settings (Some block) =
    side_answer block (drop place blocks) scene settings (side_in (words_of block.body))

-- what is answered of a block
abbrev pub nose_form : List Block → ℕ → Scene → FormSettings → FormAnswer
nose_form blocks place scene settings = answer_at blocks place scene settings (slice_get blocks place)
