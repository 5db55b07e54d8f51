-- A tape written out: the contract of `plain_tape` (src/plain.rt).
use Rattle.std.specs.Prelude.{ℕ, List, Result, Ok, Err, if◌then◌else◌}
use Rattle.cell_settings.specs.Cell.{Cell, settings_of}
use Rattle.nc_text.specs.declared.fault.TextFault.{TextFault}
use Rattle.nc_text.specs.declared.tape.Program.{Program}
use Rattle.nc_text.specs.Lines.{lines_of}
use Rattle.nc_text.specs.Tape.{tape_of}
use Rattle.comma_words.specs.Reading.{comma_tape}
use Rattle.block_words.specs.declared.dialect.Dialect.{Dialect}
use Rattle.line_edits.specs.declared.edits.Edit.{Edit}
use Rattle.line_edits.specs.Splice.{edited_lines}
use Rattle.output_lines.specs.Lines.{without_outputs}
use Rattle.plain_form.specs.declared.settings.FormSettings.{FormSettings}
use Rattle.form_lines.specs.Cell.{cell_text}
use Rattle.form_lines.specs.Choosing.{choices_said}
use Rattle.plain_form.specs.declared.cause.PlainFault.{PlainFault}
use Rattle.plain_blocks.specs.declared.step.Step.{Step}
use Rattle.plain_blocks.specs.declared.walk.Rules.{Rules}
use Rattle.plain_blocks.specs.Walk.{steps_of}
use Rattle.tape_plain.specs.Again.{all_kept, checked}
use Rattle.tape_plain.specs.Comments.{comments_of}
use Rattle.tape_plain.specs.Draft.{edits_of, size_of}
use Rattle.tape_plain.specs.Rules.{rules_of}
use Rattle.tape_plain.specs.declared.fault.PlainTapeFault.{PlainTapeFault}
use Rattle.tape_plain.specs.declared.fault.PlainTapeFault.TheVariants.{BadSetting, Unreadable, NotPlain}

-- these steps, if a tape has at most 20,000 blocks with them
abbrev pub if_sized : List (List Step) → Result ℕ PlainTapeFault → Result (List (List Step)) PlainTapeFault
if_sized all (Ok count) = Ok all
if_sized all (Err fault) = Err fault

abbrev pub sized_steps : List (List Step) → Result (List (List Step)) PlainTapeFault
sized_steps all = if_sized all (size_of 0 all)

-- the steps that were found, if they fit
abbrev pub steps_found : Result (List (List Step)) PlainFault → Result (List (List Step)) PlainTapeFault
steps_found (Ok all) = sized_steps all
steps_found (Err fault) = Err (NotPlain fault)

-- what becomes of the blocks of a tape
abbrev pub steps_by_rules : Rules → List Program → Result (List (List Step)) PlainTapeFault
steps_by_rules rules tape = steps_found (steps_of rules tape)

-- the lines that give way for what becomes of the blocks of a text
abbrev pub edits_in : List ℕ → List (List Step) → List Edit
edits_in text all = edits_of (comments_of text) all

-- the text with what becomes of the blocks of its tape, if it reads as that
abbrev pub written_text : Dialect → FormSettings → List ℕ → List Program → List (List Step) → Result (List ℕ) PlainTapeFault
written_text dialect forms text tape all =
    checked dialect forms tape all (edits_in text all) (edited_lines 1 (edits_in text all) (lines_of text))

-- the same of what became of the blocks, if it was found
abbrev pub shop_text : Dialect → FormSettings → List ℕ → List Program → Result (List (List Step)) PlainTapeFault → Result (List ℕ) PlainTapeFault
shop_text dialect forms text tape (Ok all) = written_text dialect forms text tape all
shop_text dialect forms text tape (Err fault) = Err fault

-- the same of a tape that was read as it stands: the text itself, if all blocks stay
abbrev pub own_text : Dialect → FormSettings → List ℕ → List Program → Result (List (List Step)) PlainTapeFault → Result (List ℕ) PlainTapeFault
own_text dialect forms text tape (Ok all) = if all_kept all then Ok text else written_text dialect forms text tape all
own_text dialect forms text tape (Err fault) = Err fault

-- what becomes of the blocks of a tape that was read from this text
abbrev pub steps_in : Dialect → FormSettings → List ℕ → List Program → Result (List (List Step)) PlainTapeFault
steps_in dialect forms text tape = steps_by_rules (rules_of dialect forms text tape) tape

-- the text of a tape that was read with words after commas, if it was
abbrev pub plain_by_commas : Dialect → FormSettings → List ℕ → Result (List Program) TextFault → Result (List ℕ) PlainTapeFault
plain_by_commas dialect forms text (Ok tape) = shop_text dialect forms text tape (steps_in dialect forms text tape)
plain_by_commas dialect forms text (Err fault) = Err (Unreadable fault)

-- the text of a tape that was read as it stands, without its statements that print or write a file; one
-- that was not may have words after commas
abbrev pub plain_by_quiet : Dialect → FormSettings → List ℕ → Result (List Program) TextFault → Result (List ℕ) PlainTapeFault
plain_by_quiet dialect forms quiet (Ok tape) = own_text dialect forms quiet tape (steps_in dialect forms quiet tape)
plain_by_quiet dialect forms quiet (Err fault) = plain_by_commas dialect forms quiet (comma_tape quiet)

abbrev pub plain_quiet : Dialect → FormSettings → List ℕ → Result (List ℕ) PlainTapeFault
plain_quiet dialect forms quiet = plain_by_quiet dialect forms quiet (tape_of 0 quiet)

-- the text of a tape that was read as it stands; one that was not may have statements that print or
-- write a file
abbrev pub plain_by_reading : Dialect → FormSettings → List ℕ → Result (List Program) TextFault → Result (List ℕ) PlainTapeFault
plain_by_reading dialect forms text (Ok tape) = own_text dialect forms text tape (steps_in dialect forms text tape)
plain_by_reading dialect forms text (Err fault) = plain_quiet dialect forms (without_outputs text)

-- The text of a tape in the language that this control runs: a line whose block is one of it stays
-- byte for byte, and any other gives way to plain blocks, of which the first has its comments; or its
-- refusal. No block is skipped. A statement that prints or writes a file becomes a comment.
unfoldable pub plain_of : Dialect → FormSettings → List ℕ → Result (List ℕ) PlainTapeFault
plain_of dialect forms text = plain_by_reading dialect forms text (tape_of 0 text)

-- how a tape is read, as the settings say
abbrev pub dialect_in : Cell → Dialect
dialect_in cell = record { low = cell.wait_low; high = cell.wait_high; bits = cell.bits; system = cell.system }

-- the text, if the settings were read
abbrev pub plain_by : Result Cell ℕ → FormSettings → List ℕ → Result (List ℕ) PlainTapeFault
plain_by (Ok cell) forms text = plain_of (dialect_in cell) forms text
plain_by (Err line) forms text = Err (BadSetting line)

-- the text of a tape in the language that this control runs, as the settings say that it is read and
-- what the machine decides of forms
abbrev pub plain_text : List ℕ → List ℕ → Result (List ℕ) PlainTapeFault
plain_text settings text = plain_by (settings_of (cell_text settings)) (choices_said settings) text
