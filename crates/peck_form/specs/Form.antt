-- The form of grooves and holes: what is answered of a block. src/form.rt makes the answer.
use Rattle.std.specs.Prelude.{ℕ, ◌+◌, ◌-◌, ◌^◌, min, List, [], take, drop, Option, Some, None, pos, slice_get, if◌then◌else◌}
use Rattle.code_tables.specs.declared.kind.CodeKind.{CodeKind}
use Rattle.nc_number.specs.declared.axis.Axis.TheVariants.{Keep}
use Rattle.nc_number.specs.declared.point.Point.{Point}
use Rattle.nc_text.specs.declared.tape.Block.{Block}
use Rattle.peck_cycle.specs.declared.along.Along.{Along}
use Rattle.peck_cycle.specs.declared.along.Along.TheVariants.{Z, X}
use Rattle.peck_cycle.specs.declared.drill.ReturnLevel.{ReturnLevel}
use Rattle.peck_cycle.specs.declared.drill.ReturnLevel.TheVariants.{Start}
use Rattle.peck_cycle.specs.Axes.{place_along, place_beside}
use Rattle.plain_form.specs.declared.scene.Scene.{Scene}
use Rattle.plain_form.specs.declared.settings.FormSettings.{FormSettings}
use Rattle.plain_form.specs.declared.answer.FormAnswer.{FormAnswer}
use Rattle.plain_form.specs.declared.answer.FormAnswer.TheVariants.{NotMine}
use Rattle.plain_form.specs.declared.cause.PlainCause.{PlainCause}
use Rattle.plain_form.specs.declared.cause.PlainCause.TheVariants as cause
use Rattle.plain_form.specs.Said.{has_code}
use Rattle.cycle_words.specs.Motion.{scene_cause}
use Rattle.cycle_words.specs.Scenes.{start_of, words_of, refused}
use Rattle.peck_form.specs.declared.kind.HoleCode.{HoleCode}
use Rattle.peck_form.specs.declared.hole.HoleSaid.{HoleSaid}
use Rattle.peck_form.specs.Groove.{groove_code, retreat_from, groove_answer}
use Rattle.peck_form.specs.Kinds.{along_of, hole_code, level_from}
use Rattle.peck_form.specs.Run.{run_from}

-- what is in force before a run
abbrev pub said_before : HoleCode → ReturnLevel → Point → Option CodeKind → HoleSaid
said_before code level start motion = record {
  code = code;
  start = place_along (along_of code) start;
  beside = Some (place_beside (along_of code) start);
  bottom = Keep;
  point_r = pos 0;
  peck = 0;
  dwell = 0;
  returns = level;
  feed = None;
  motion = motion;
}

-- the answer to a run of holes from a start
abbrev pub holes_from : ℕ → List Block → HoleCode → ReturnLevel → Scene → FormSettings → Option Point → FormAnswer
holes_from line blocks code level scene settings None = refused line cause.Position
holes_from line blocks code level scene settings (Some start) = run_from blocks scene.system settings (said_before code level start scene.motion) []

-- the same, if lengths are places
abbrev pub way_by : ℕ → List Block → HoleCode → ReturnLevel → Scene → FormSettings → Option PlainCause → FormAnswer
way_by line blocks code level scene settings (Some why) = refused line why
way_by line blocks code level scene settings None = holes_from line blocks code level scene settings (start_of scene)

abbrev pub holes_answer : ℕ → List Block → HoleCode → ReturnLevel → Scene → FormSettings → FormAnswer
holes_answer line blocks code level scene settings = way_by line blocks code level scene settings (scene_cause scene)

-- the answer to a block with the code of holes, or with none
abbrev pub code_answer : List Block → ℕ → Block → Scene → FormSettings → Option HoleCode → FormAnswer
code_answer blocks place block scene settings None = NotMine
code_answer blocks place block scene settings (Some code) =
    holes_answer block.line (drop place blocks) code (level_from scene.system Start (take place blocks)) scene settings

-- the answer to a block with G74 or G75, behind these blocks and before the next one
abbrev pub groove_at : Along → List Block → Block → Option Block → Scene → FormSettings → FormAnswer
groove_at along before block next scene settings =
    groove_answer along (retreat_from settings.groove_retreat before) block next scene

-- the answer to a block in its place, before the next one
unfoldable pub block_answer : List Block → ℕ → Block → Option Block → Scene → FormSettings → FormAnswer
block_answer blocks place block next scene settings =
    if has_code (groove_code Z) (words_of block.body)
    then groove_at Z (take place blocks) block next scene settings
    else if has_code (groove_code X) (words_of block.body)
    then groove_at X (take place blocks) block next scene settings
    else code_answer blocks place block scene settings (hole_code (words_of block.body))

-- the place behind another
abbrev pub place_behind : ℕ → ℕ
place_behind place = min (place + 1) (2 ^ 64 - 1)

-- the answer to a block of the program's
abbrev pub answer_at : List Block → ℕ → Scene → FormSettings → Option Block → FormAnswer
answer_at blocks place scene settings None = NotMine
answer_at blocks place scene settings (Some block) =
    block_answer blocks place block (slice_get blocks (place_behind place)) scene settings

-- what is answered of a block
abbrev pub peck_form : List Block → ℕ → Scene → FormSettings → FormAnswer
peck_form blocks place scene settings = answer_at blocks place scene settings (slice_get blocks place)
