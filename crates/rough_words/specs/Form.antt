-- The form of roughing: what is answered of a block. src/form.rt makes the answer.
use Rattle.std.specs.Prelude.{ℕ, List, [], ◌∷◌, drop, take, Option, Some, None, option_map, pos, if◌then◌else◌}
use Rattle.nc_number.specs.declared.point.Point.{Point}
use Rattle.line_text.specs.declared.body.Word.{Word}
use Rattle.nc_text.specs.declared.tape.Block.{Block}
use Rattle.arc_contour.specs.declared.way.Way.{Way}
use Rattle.plain_form.specs.declared.answer.FormAnswer.{FormAnswer}
use Rattle.plain_form.specs.declared.answer.FormAnswer.TheVariants.{NotMine}
use Rattle.plain_form.specs.declared.cause.PlainCause.{PlainCause}
use Rattle.plain_form.specs.declared.cause.PlainCause.TheVariants as cause
use Rattle.plain_form.specs.declared.scene.Scene.{Scene}
use Rattle.plain_form.specs.declared.settings.FormSettings.{FormSettings}
use Rattle.plain_form.specs.Said.{has_code}
use Rattle.cycle_words.specs.Motion.{scene_cause}
use Rattle.cycle_words.specs.Scenes.{refused, start_of, words_of}
use Rattle.rough_words.specs.declared.form.Cycle.{Cycle}
use Rattle.rough_words.specs.declared.form.Cycle.TheVariants.{Rough, Finish, Pattern}
use Rattle.rough_words.specs.Heads.{way_of}
use Rattle.rough_words.specs.Roughs.{rough_answer}
use Rattle.rough_words.specs.Finishes.{finish_answer}
use Rattle.rough_words.specs.Patterns.{pattern_answer}

-- the cycle of these passes, if there are any
abbrev pub rough_cycle : Option Way → Option Cycle
rough_cycle (Some way) = Some (Rough way)
rough_cycle None = None

-- the cycle that the words begin, if they begin one
abbrev pub cycle_of : List Word → Option Cycle
cycle_of words =
    if has_code (pos 70000000) words
    then Some Finish
    else if has_code (pos 73000000) words
    then Some Pattern
    else rough_cycle (way_of words)

-- the answer to a cycle from where the tool stands
abbrev pub start_answer : Cycle → Block → Point → List Block → List Block → Scene → FormSettings → FormAnswer
start_answer (Rough way) block start before behind scene settings = rough_answer way block start behind scene settings
start_answer Finish block start before behind scene settings = finish_answer block start before scene
start_answer Pattern block start before behind scene settings = pattern_answer block start behind scene settings

-- the same, if that is known
abbrev pub answer_from : Option Point → Cycle → Block → List Block → List Block → Scene → FormSettings → FormAnswer
answer_from (Some start) cycle block before behind scene settings = start_answer cycle block start before behind scene settings
answer_from None cycle block before behind scene settings = refused block.line cause.Position

-- the same, if lengths can be read
abbrev pub answer_by : Option PlainCause → Cycle → Block → List Block → List Block → Scene → FormSettings → FormAnswer
answer_by (Some why) cycle block before behind scene settings = refused block.line why
answer_by None cycle block before behind scene settings = answer_from (start_of scene) cycle block before behind scene settings

-- the answer to a cycle
abbrev pub cycle_answer : Cycle → Block → List Block → List Block → Scene → FormSettings → FormAnswer
cycle_answer cycle block before behind scene settings = answer_by (scene_cause scene) cycle block before behind scene settings

-- the answer to a block that begins this cycle, if it begins one
abbrev pub some_answer : Option Cycle → Block → List Block → List Block → Scene → FormSettings → FormAnswer
some_answer (Some cycle) block before behind scene settings = cycle_answer cycle block before behind scene settings
some_answer None block before behind scene settings = NotMine

-- the answer to a block, behind these blocks and before those
abbrev pub block_answer : Block → List Block → List Block → Scene → FormSettings → FormAnswer
block_answer block before behind scene settings =
    some_answer (cycle_of (words_of block.body)) block before behind scene settings

-- the answer to the first of these blocks, behind those
abbrev pub first_answer : List Block → List Block → Scene → FormSettings → FormAnswer
first_answer before [] scene settings = NotMine
first_answer before (block ∷ behind) scene settings = block_answer block before behind scene settings

-- what is answered of a block
abbrev pub rough_form : List Block → ℕ → Scene → FormSettings → FormAnswer
rough_form blocks place scene settings = first_answer (take place blocks) (drop place blocks) scene settings
