-- The form of threads: what is answered of a block. src/form.rt makes the answer. The letters are
-- bytes: 68 D, 75 K, 85 U, 87 W, 88 X, 90 Z.
use Rattle.std.specs.Prelude.{ℕ, ◌+◌, Bool, ◌||◌, List, drop, Option, Some, None, slice_get, if◌then◌else◌}
use Rattle.line_text.specs.declared.body.Word.{Word}
use Rattle.nc_text.specs.declared.tape.Block.{Block}
use Rattle.nc_number.specs.declared.point.Point.{Point}
use Rattle.plain_form.specs.declared.scene.Scene.{Scene}
use Rattle.plain_form.specs.declared.settings.FormSettings.{FormSettings}
use Rattle.plain_form.specs.declared.answer.FormAnswer.{FormAnswer}
use Rattle.plain_form.specs.declared.answer.FormAnswer.TheVariants.{NotMine}
use Rattle.plain_form.specs.declared.cause.PlainCause.{PlainCause}
use Rattle.plain_form.specs.declared.cause.PlainCause.TheVariants as cause
use Rattle.plain_form.specs.Said.{has_code}
use Rattle.cycle_words.specs.Numbers.{is_said}
use Rattle.thread_form.specs.Answers.{cycle_answer}
use Rattle.cycle_words.specs.Scenes.{start_of, words_of, says_ends, refused}
use Rattle.thread_form.specs.OneLine as one
use Rattle.thread_form.specs.TwoLines as two
use Rattle.thread_form.specs.Taper.{is_taper, taper_answer}

-- the words are those of a G76 in one line
abbrev pub says_height : List Word → Bool
says_height words = is_said 75 words || is_said 68 words

-- the answer to a G76 in one line, from a start
abbrev pub one_from : Block → Scene → FormSettings → Option Point → FormAnswer
one_from block scene settings None = refused block.line cause.Position
one_from block scene settings (Some start) =
    cycle_answer (record { head = None; body = block.line }) scene (one.cycle_of settings scene start (words_of block.body))

-- the answer to a G76 in one line, if it is not refused
abbrev pub one_by : Block → Scene → FormSettings → Option PlainCause → FormAnswer
one_by block scene settings (Some why) = refused block.line why
one_by block scene settings None = one_from block scene settings (start_of scene)

abbrev pub one_answer : Block → Scene → FormSettings → FormAnswer
one_answer block scene settings = one_by block scene settings (one.line_cause scene (words_of block.body))

-- the answer to a G76 in two lines, from a start
abbrev pub two_from : Block → Block → Scene → FormSettings → Option Point → FormAnswer
two_from block next scene settings None = refused next.line cause.Position
two_from block next scene settings (Some start) =
    cycle_answer (record { head = Some block.line; body = next.line }) scene
    (two.cycle_of settings scene start (words_of block.body) (words_of next.body))

-- if its second line is not refused
abbrev pub body_by : Block → Block → Scene → FormSettings → Option PlainCause → FormAnswer
body_by block next scene settings (Some why) = refused next.line why
body_by block next scene settings None = two_from block next scene settings (start_of scene)

-- if its first line is not
abbrev pub head_by : Block → Block → Scene → FormSettings → Option PlainCause → FormAnswer
head_by block next scene settings (Some why) = refused block.line why
head_by block next scene settings None =
    if has_code two.thread_code (words_of next.body)
    then body_by block next scene settings (two.body_cause scene (words_of next.body))
    else refused block.line cause.NoForm

abbrev pub second_answer : Block → Block → Scene → FormSettings → FormAnswer
second_answer block next scene settings = head_by block next scene settings (two.head_cause settings (words_of block.body))

-- the same, if there is a second line
abbrev pub next_answer : Block → Option Block → Scene → FormSettings → FormAnswer
next_answer block None scene settings = refused block.line cause.NoForm
next_answer block (Some next) scene settings = second_answer block next scene settings

-- the answer to a block with G76, before this one
abbrev pub thread_answer : Block → Option Block → Scene → FormSettings → FormAnswer
thread_answer block next scene settings =
    if says_height (words_of block.body)
    then one_answer block scene settings
    else if says_ends (words_of block.body)
    then refused block.line (cause.Missing 75)
    else next_answer block next scene settings

-- the answer to a block of the program's
abbrev pub answer_at : List Block → ℕ → Scene → FormSettings → Option Block → FormAnswer
answer_at blocks place scene settings None = NotMine
answer_at blocks place scene settings (Some block) =
    if has_code two.thread_code (words_of block.body)
    then thread_answer block (slice_get blocks (place + 1)) scene settings
    else if is_taper scene.system (words_of block.body)
    then taper_answer block.line (drop place blocks) scene settings
    else NotMine

-- what is answered of a block
abbrev pub thread_form : List Block → ℕ → Scene → FormSettings → FormAnswer
thread_form blocks place scene settings = answer_at blocks place scene settings (slice_get blocks place)
