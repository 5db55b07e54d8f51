-- What was written, read again: it is handed over only if it reads as what became of the tape, and
-- stays if it is written out once more. src/again.rt computes it. 10 is the line feed.
use Rattle.std.specs.Prelude.{ℕ, ◌+◌, ◌-◌, ◌^◌, min, Bool, true, false, ◌==◌, nat_lt, List, [], ◌∷◌, Result, Ok, Err, if◌then◌else◌}
use Rattle.std.specs.List.{list_all}
use Rattle.nc_text.specs.declared.fault.TextFault.{TextFault}
use Rattle.nc_text.specs.declared.tape.Program.{Program}
use Rattle.nc_text.specs.Tape.{tape_of}
use Rattle.block_words.specs.declared.dialect.Dialect.{Dialect}
use Rattle.line_edits.specs.declared.edits.Edit.{Edit}
use Rattle.plain_form.specs.declared.cause.PlainCause.TheVariants as cause
use Rattle.plain_form.specs.declared.cause.PlainFault.{PlainFault}
use Rattle.plain_form.specs.declared.settings.FormSettings.{FormSettings}
use Rattle.plain_blocks.specs.declared.step.Step.{Step}
use Rattle.plain_blocks.specs.declared.step.Step.TheVariants as step
use Rattle.plain_blocks.specs.Walk.{steps_of}
use Rattle.written_blocks.specs.Tapes.{is_read_as}
use Rattle.tape_plain.specs.Rules.{rules_of}
use Rattle.tape_plain.specs.declared.fault.PlainTapeFault.{PlainTapeFault}
use Rattle.tape_plain.specs.declared.fault.PlainTapeFault.TheVariants.{Unreadable, NotPlain}

-- a line so many lines further on, as far as numbers of lines go
abbrev pub further : ℕ → ℕ → ℕ
further line count = min (line + count) (2 ^ 32 - 1)

-- so many lines, and those of these bytes
abbrev pub lines_from : ℕ → List ℕ → ℕ
lines_from count [] = count
lines_from count (byte ∷ bytes) = lines_from (if byte == 10 then further count 1 else count) bytes

-- The line of a tape for which a line stands of the text that was made of it by these edits: it
-- stands before the first of them, in it, or behind it, where one line gave way to so many.
abbrev pub origin : ℕ → List Edit → ℕ
origin line [] = line
origin line (edit ∷ edits) =
    if nat_lt line edit.line then line
    else if nat_lt line (further edit.line (lines_from 0 edit.new)) then edit.line
    else origin (further (line - lines_from 0 edit.new) 1) edits

-- the line of the first edit
abbrev pub first_line : List Edit → ℕ
first_line [] = 1
first_line (edit ∷ edits) = edit.line

-- a refusal of the text that was written, at the line for which its line stands
abbrev pub unread : TextFault → List Edit → PlainTapeFault
unread fault edits = Unreadable (record { number = fault.number; line = origin fault.line edits })

-- a refusal of the tape that was written, at that line
abbrev pub not_again : PlainFault → List Edit → PlainTapeFault
not_again fault edits = NotPlain (record { line = origin fault.line edits; cause = fault.cause })

-- what was written is not what it should be
abbrev pub unlike : List Edit → PlainTapeFault
unlike edits = NotPlain (record { line = first_line edits; cause = cause.NoForm })

-- a block stays
abbrev pub is_kept : Step → Bool
is_kept step.Kept = true
is_kept (step.Written line) = false

-- all blocks of a program stay
abbrev pub are_kept : List Step → Bool
are_kept steps = list_all is_kept steps

-- all blocks of a tape stay
abbrev pub all_kept : List (List Step) → Bool
all_kept all = list_all are_kept all

-- the text that was written, if all blocks of its tape stay
abbrev pub if_stays : List Edit → List ℕ → Result (List (List Step)) PlainFault → Result (List ℕ) PlainTapeFault
if_stays edits out (Ok all) = if all_kept all then Ok out else Err (unlike edits)
if_stays edits out (Err fault) = Err (not_again fault edits)

-- the same of a text that was read, if it says what became of the tape
abbrev pub if_read : Dialect → FormSettings → List Program → List (List Step) → List Edit → List ℕ → Result (List Program) TextFault → Result (List ℕ) PlainTapeFault
if_read dialect forms tape all edits out (Ok again) =
    if is_read_as again tape all then if_stays edits out (steps_of (rules_of dialect forms out again) again) else Err (unlike edits)
if_read dialect forms tape all edits out (Err fault) = Err (unread fault edits)

-- the text that these edits made of a tape, if it reads as what became of the tape, and stays if it is
-- written out again; or its refusal
abbrev pub checked : Dialect → FormSettings → List Program → List (List Step) → List Edit → List ℕ → Result (List ℕ) PlainTapeFault
checked dialect forms tape all edits out = if_read dialect forms tape all edits out (tape_of 0 out)
