-- The form of G30. src/form.rt computes it. The letters are bytes: 80 P, 88 X.
use Rattle.std.specs.Prelude.{ℕ, Bool, true, false, not, ◌==◌, ◌&&◌, List, [], ◌∷◌, codes, Option, Some, None, ℤ, pos, slice_get, if◌then◌else◌}
use Rattle.line_text.specs.declared.body.Word.{Word}
use Rattle.nc_number.specs.declared.point.Point.{Point}
use Rattle.nc_text.specs.declared.tape.Block.{Block}
use Rattle.plain_form.specs.declared.answer.FormAnswer.{FormAnswer}
use Rattle.plain_form.specs.declared.answer.FormAnswer.TheVariants.{NotMine, Written}
use Rattle.plain_form.specs.declared.cause.PlainCause.{PlainCause}
use Rattle.plain_form.specs.declared.cause.PlainCause.TheVariants as cause
use Rattle.plain_form.specs.declared.scene.Scene.{Scene}
use Rattle.plain_form.specs.declared.settings.FormSettings.{FormSettings}
use Rattle.plain_form.specs.Said.{has_code}
use Rattle.cycle_words.specs.Causes.{first_cause, calculated_in, missing_of, unexpected_in}
use Rattle.cycle_words.specs.Motion.{scene_cause}
use Rattle.cycle_words.specs.Numbers.{is_said, count_said}
use Rattle.cycle_words.specs.Scenes.{words_of, says_ends, refused}
use Rattle.reference_form.specs.declared.form.TheConstants.{REFERENCE}
use Rattle.reference_form.specs.Lines.{reference_lines}

-- a count is 2
abbrev pub is_two : Option ℕ → Bool
is_two None = false
is_two (Some n) = n == 2

-- why P is refused: it names another reference position than the second
abbrev pub number_cause : List Word → Option PlainCause
number_cause words = if is_said 80 words && not (is_two (count_said 80 words)) then Some (cause.Range 80) else None

-- why the words are refused
abbrev pub words_cause : List Word → Option PlainCause
words_cause words =
    first_cause (unexpected_in (codes "GXUZWPM") (REFERENCE ∷ []) words)
    (first_cause (calculated_in (codes "XUZWP") words) (first_cause (number_cause words) (missing_of (says_ends words) 88)))

-- why the block is refused
abbrev pub line_cause : List Word → Scene → Option PlainCause
line_cause words scene = first_cause (words_cause words) (scene_cause scene)

-- the answer to such a block, to this reference position
abbrev pub home_answer : List Word → Scene → Point → FormAnswer
home_answer words scene home = Written (record { blocks = reference_lines scene.motion home words } ∷ [])

-- the same, if a line of the settings says it
abbrev pub home_by : Block → Scene → Option Point → FormAnswer
home_by block scene None = refused block.line cause.Setting
home_by block scene (Some home) = home_answer (words_of block.body) scene home

-- the answer to a block with G30, if it is not refused
abbrev pub block_by : Block → Scene → FormSettings → Option PlainCause → FormAnswer
block_by block scene settings (Some why) = refused block.line why
block_by block scene settings None = home_by block scene settings.second_home

abbrev pub block_answer : Block → Scene → FormSettings → FormAnswer
block_answer block scene settings = block_by block scene settings (line_cause (words_of block.body) scene)

-- the answer to a block of the program's
abbrev pub answer_at : Scene → FormSettings → Option Block → FormAnswer
answer_at scene settings None = NotMine
answer_at scene settings (Some block) =
    if has_code REFERENCE (words_of block.body) then block_answer block scene settings else NotMine

-- what is answered of a block
abbrev pub reference_form : List Block → ℕ → Scene → FormSettings → FormAnswer
reference_form blocks place scene settings = answer_at scene settings (slice_get blocks place)
