-- What a text says that `plain` wrote. src/laws.rt cites it.
use Rattle.std.specs.Prelude.{◌≡◌, ◌⊎◌, ℕ, List, All, Ok}
use Rattle.nc_text.specs.declared.tape.Block.{Block}
use Rattle.nc_text.specs.declared.tape.Program.{Program}
use Rattle.nc_text.specs.Tape.{tape_of}
use Rattle.comma_words.specs.Reading.{comma_tape}
use Rattle.block_words.specs.declared.dialect.Dialect.{Dialect}
use Rattle.block_forms.specs.Forms.{BlockForm, block_or_refusal}
use Rattle.output_lines.specs.Lines.{without_outputs}
use Rattle.plain_form.specs.declared.settings.FormSettings.{FormSettings}
use Rattle.plain_blocks.specs.declared.step.Step.{Step}
use Rattle.plain_blocks.specs.Walk.{steps_of}
use Rattle.written_blocks.specs.Told.{told_programs, written_programs}
use Rattle.tape_plain.specs.Rules.{rules_of}

-- the text, or with its statements that print or write a file as comments
abbrev pub IsSource : List ℕ → List ℕ → Type 0
IsSource text source = (source ≡ text) ⊎ (source ≡ without_outputs text)

-- the text reads as this tape, as it stands or with words after commas
abbrev pub IsShopTape : List ℕ → List Program → Type 0
IsShopTape text tape = (tape_of 0 text ≡ Ok tape) ⊎ (comma_tape text ≡ Ok tape)

-- the block is one of this control's language
abbrev pub IsForm : Dialect → Block → Type 0
IsForm dialect block = (form : BlockForm) × (block_or_refusal dialect block ≡ Ok form)

-- all blocks of a tape are
abbrev pub AreForms : Dialect → List Program → Type 0
AreForms dialect tape = All (λ program. All (IsForm dialect) program.blocks) tape

-- the text is what was written of another
pub record IsWritten (dialect : Dialect) (forms : FormSettings) (text out : List ℕ) : Type 0 where
  -- the tape of the other text
  pub source : List ℕ
  pub source_is : IsSource text source
  pub tape : List Program
  pub read : IsShopTape source tape
  -- what becomes of its blocks
  pub all : List (List Step)
  pub steps : steps_of (rules_of dialect forms source tape) tape ≡ Ok all
  -- the text reads as a tape
  pub again : List Program
  pub reads : tape_of 0 out ≡ Ok again
  -- which says what became of the other, block by block
  pub says : told_programs again ≡ written_programs tape all
  -- each of its blocks is one of this control's language
  pub forms_are : AreForms dialect again
