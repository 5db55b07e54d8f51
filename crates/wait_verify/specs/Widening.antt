-- Which pairs that `verify` accepts `waits` accepts too, with the same lists of labels: those whose
-- texts need no opening, as they have no sequence number behind another word, that have no M96, M97 and
-- M198 as plain codes, and no jump past a wait to another block of its number.
-- For the law `what_a_run_accepts_is_accepted` (src/laws.rt) alone.
use Rattle.std.specs.Prelude.{◌≡◌, ℕ, List, All, None, Ok, false}
use Rattle.nc_text.specs.declared.tape.Block.{Block}
use Rattle.nc_text.specs.declared.tape.Program.{Program}
use Rattle.nc_text.specs.Shape.{blocks_in}
use Rattle.nc_text.specs.Tape.{tape_of}
use Rattle.nc_number.specs.declared.path.Path.{Path}
use Rattle.nc_number.specs.declared.path.Path.TheVariants.{One, Two}
use Rattle.cell_settings.specs.Cell.{Cell}
use Rattle.block_words.specs.declared.dialect.Dialect.{Dialect}
use Rattle.open_forms.specs.Widening.{has_interrupt}
use Rattle.tape_flow.specs.Controls.{controls}
use Rattle.tape_flow.specs.Forms.{ProgramForm}
use Rattle.nc_verify.specs.Verdict as run
use Rattle.nc_verify.specs.Verdict.{Texts, skips_of, dialect_in}
use Rattle.block_order.specs.declared.program.ControlProgram.{ControlProgram}
use Rattle.open_order.specs.Reading.{programs_read}
use Rattle.open_order.specs.Doubles.{double_fault}
use Rattle.open_text.specs.Opened.{opened_text}
use Rattle.wait_verify.specs.Asked.{question_of}
use Rattle.wait_verify.specs.Switches.{free_switches}
use Rattle.wait_verify.specs.Verdict.{Judged, AreAcceptedAt, AreAccepted}

-- The block is plain: it has no M96, M97 or M198, unless as a wait or an argument of a macro call.
abbrev pub IsPlainBlock : Dialect → Block → Type 0
IsPlainBlock dialect block = has_interrupt dialect block.body ≡ false

-- The text of a tape is plain: to open it changes nothing, each of its blocks is plain, and no jump of it
-- to a number that its program has twice may lead to another stretch.
pub record IsPlainText (dialect : Dialect) (skips : ℕ) (text : List ℕ) : Type 0 where
  pub opened : opened_text skips text ≡ text
  pub plain : (tape : List Program) → tape_of skips text ≡ Ok tape → All (IsPlainBlock dialect) (blocks_in tape)
  pub single : (tape : List Program) (order : List ControlProgram) → tape_of skips text ≡ Ok tape
      → programs_read (record { dialect = dialect; outside = None }) tape ≡ Ok order → double_fault order ≡ None

-- The texts of both tapes of a pair are plain.
pub record ArePlain (texts : Texts) (cell : Cell) : Type 0 where
  pub left : IsPlainText (dialect_in cell) (skips_of One cell) texts.left
  pub right : IsPlainText (dialect_in cell) (skips_of Two cell) texts.right

-- The pair is accepted for its waits too, with the orders of blocks that these programs have, and
-- so with the same lists of labels. `left` and `right` are the programs of the two paths as
-- `verify` accepts them.
pub record IsWidened (texts : Texts) (cell : Cell) (left right : List ProgramForm) : Type 0 where
  -- the pair as it is judged for its waits
  pub judged : Judged
  -- the orders are those of the programs
  pub left_same : judged.left ≡ controls left
  pub right_same : judged.right ≡ controls right
  -- it is accepted with no free block-skip switch on, also if its tapes may lack no program
  pub accepted : AreAcceptedAt (question_of texts.left texts.right texts.settings None) judged
  -- if no switch is free, it is accepted
  pub whole : free_switches (question_of texts.left texts.right texts.settings None) cell ≡ 0
      → AreAccepted (question_of texts.left texts.right texts.settings None) judged
