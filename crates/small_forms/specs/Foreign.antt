-- Blocks of which the form that would be needed is known, and is none of this house: why they are
-- refused. src/foreign.rt computes it.
use Rattle.std.specs.Prelude.{ℕ, ◌||◌, List, Option, Some, None, pos, slice_get, if◌then◌else◌}
use Rattle.line_text.specs.declared.body.Word.{Word}
use Rattle.line_text.specs.declared.body.Body.{Body}
use Rattle.line_text.specs.declared.body.Body.TheVariants.{Words, Statement}
use Rattle.nc_text.specs.declared.tape.Block.{Block}
use Rattle.plain_form.specs.Said.{has_code}
use Rattle.plain_form.specs.declared.answer.FormAnswer.{FormAnswer}
use Rattle.plain_form.specs.declared.answer.FormAnswer.TheVariants.{NotMine, Refused}
use Rattle.plain_form.specs.declared.cause.PlainCause.{PlainCause}
use Rattle.plain_form.specs.declared.cause.PlainCause.TheVariants as cause

-- why words are refused: G66 and G67, under which each move calls a program, and G20, which makes
-- lengths inches
abbrev pub words_cause : List Word → Option PlainCause
words_cause words =
    if has_code (pos 66000000) words || has_code (pos 67000000) words then Some cause.Control
    else if has_code (pos 20000000) words then Some cause.Unit
    else None

-- why a block is refused
abbrev pub body_cause : Body → Option PlainCause
body_cause (Words words) = words_cause words
body_cause (Statement text) = None

-- what is answered about the block of this line, if it is refused for this
abbrev pub foreign_answer : ℕ → Option PlainCause → FormAnswer
foreign_answer line (Some why) = Refused (record { line = line; cause = why })
foreign_answer line None = NotMine

-- the same of a block that was found
abbrev pub foreign_of : Option Block → FormAnswer
foreign_of None = NotMine
foreign_of (Some block) = foreign_answer block.line (body_cause block.body)

-- the form of a block with G66, G67 or G20
abbrev pub foreign_form : List Block → ℕ → FormAnswer
foreign_form blocks place = foreign_of (slice_get blocks place)
