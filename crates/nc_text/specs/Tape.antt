-- A tape: lines before the first that begins with `%`, that line, the lines of the programs, the
-- next line that begins with `%`, and lines after it. The answer is the programs, or the fault of
-- the first line that has one, and there of the least number. The reader computes `tape_of`. What a
-- single line says is defined in line_text.
use Rattle.std.specs.Prelude.{ℕ, ◌+◌, Bool, true, false, not, ◌&&◌, nat_lt, nat_le, List, [], ◌∷◌, ◌++◌, length, Option, Some, None, Result, Ok, Err, is_some, if◌then◌else◌}
use Rattle.std.specs.Option.{option_to_list, is_none}
use Rattle.nc_number.specs.declared.limits.TheConstants.{LONGEST_LINE, LONGEST_TAPE, MOST_BLOCKS}
use Rattle.nc_text.specs.declared.fault.TextFault.{TextFault}
use Rattle.nc_text.specs.declared.tape.Block.{Block}
use Rattle.nc_text.specs.declared.tape.Program.{Program}
use Rattle.line_text.specs.declared.refusal.Refusal.{Refusal}
use Rattle.line_text.specs.declared.refusal.Refusal.TheVariants.{NoProgramNumber, NoEnd, LineTooLong, TooManyBlocks, TapeTooLong, WordRange}
use Rattle.line_text.specs.declared.said.Said.{Said}
use Rattle.line_text.specs.declared.said.Said.TheVariants as said
use Rattle.line_text.specs.declared.said.SaidBlock.{SaidBlock}
use Rattle.nc_text.specs.Lines.{Line, lines_of, is_percent, size_of}
use Rattle.line_text.specs.Refusals.{refusal_number}
use Rattle.line_text.specs.Said.{line_says}

-- what stands before a line
pub record Before : Type 0 where
  -- how many lines there are
  pub lines : ℕ
  -- how many bytes these lines have, with their line feeds
  pub bytes : ℕ
  -- the number of the first line that begins with `%`, counted from 1, or 0 before it
  pub percent : ℕ
  -- how many blocks there are, of all programs
  pub blocks : ℕ
  -- the programs before the one that is being read
  pub done : List Program
  -- the program that is being read, if an O number came
  pub current : Option Program

-- what stands before the first line: nothing
abbrev pub nothing_read : Before
nothing_read = record { lines = 0; bytes = 0; percent = 0; blocks = 0; done = []; current = None }

-- all programs so far
abbrev pub programs_of : Before → List Program
programs_of before = before.done ++ option_to_list before.current

-- a refusal as the fault of the line after what was read
abbrev pub fault_behind : Before → Refusal → TextFault
fault_behind before refusal = record { number = refusal_number refusal; line = before.lines + 1 }

-- whether a line of this length, with its line feed if it has one, makes the text longer than
-- 4 MiB
abbrev pub is_past_end : Before → ℕ → Bool → Bool
is_past_end before len ended = nat_lt LONGEST_TAPE (before.bytes + size_of len ended)

-- what was read, with one line more counted
abbrev pub next : Before → ℕ → Bool → Before
next before len ended = record before { lines = before.lines + 1; bytes = before.bytes + size_of len ended }

-- the least refusal of a line that begins with `%`
abbrev pub percent_refusal : Before → ℕ → Bool → Option Refusal
percent_refusal before len ended =
    if nat_lt LONGEST_LINE len then Some LineTooLong else (if is_past_end before len ended then Some TapeTooLong else None)

-- the least refusal of a line before the first or after the second `%` line
abbrev pub outer_refusal : Before → ℕ → Bool → Option Refusal
outer_refusal before len ended = if is_past_end before len ended then Some TapeTooLong else None

-- whether a line says a block
abbrev pub is_block : Said → Bool
is_block said.Nothing = false
is_block (said.Program number) = false
is_block (said.Block block) = true

-- whether the O number, or each sequence number of the block, is in its range; nothing always is
abbrev pub is_said_in_range : Said → Bool
is_said_in_range said.Nothing = true
is_said_in_range (said.Program number) = is_some number
is_said_in_range (said.Block block) = block.in_range

-- the least refusal of a line of the programs that no refusal by itself refuses and that says this
abbrev pub said_refusal : Before → ℕ → Bool → Said → Option Refusal
said_refusal before len ended said =
    if is_block said && is_none before.current then Some NoProgramNumber
    else (if nat_lt LONGEST_LINE len then Some LineTooLong
    else (if is_block said && nat_le MOST_BLOCKS before.blocks then Some TooManyBlocks
    else (if is_past_end before len ended then Some TapeTooLong
    else (if not (is_said_in_range said) then Some WordRange
    else None))))

-- a program with this O number that begins at this line and has no blocks yet
abbrev pub program_at : ℕ → ℕ → Program
program_at line number = record { number = number; line = line; blocks = [] }

-- the block that a line says, with the number of the line
abbrev pub block_at : ℕ → SaidBlock → Block
block_at line block = record { line = line; sequence = block.sequence; body = block.body }

-- the program that is being read, if there is one, with one block more
abbrev pub with_block : Block → Option Program → Option Program
with_block block None = None
with_block block (Some program) = Some (record program { blocks = program.blocks ++ block ∷ [] })

-- what was read, with a program of this number that begins at the next line
abbrev pub with_program : Before → ℕ → Before
with_program before number = record before { done = programs_of before; current = Some (program_at (before.lines + 1) number) }

-- what was read, with what the next line says; the line itself is not yet counted
abbrev pub with_said : Before → Said → Before
with_said before said.Nothing = before
with_said before (said.Program None) = before
with_said before (said.Program (Some number)) = with_program before number
with_said before (said.Block block) = record before { blocks = before.blocks + 1; current = with_block (block_at (before.lines + 1) block) before.current }

-- what was read, or the refusal if there is one
abbrev pub unless_refused : Option Refusal → Before → Result Before Refusal
unless_refused None before = Ok before
unless_refused (Some refusal) before = Err refusal

-- what was read after one line of the programs more, of this length, which says this by itself or
-- has this refusal by itself; or its least refusal
abbrev pub after_said : Before → ℕ → Bool → Result Said Refusal → Result Before Refusal
after_said before len ended (Ok said) = unless_refused (said_refusal before len ended said) (next (with_said before said) len ended)
after_said before len ended (Err refusal) = Err refusal

-- what was read after one line of the programs more, or its least refusal
abbrev pub after_line : ℕ → Before → List ℕ → Bool → Result Before Refusal
after_line skips before bytes ended = after_said before (length bytes) ended (line_says skips bytes ended)

-- what was read after one `%` line more, or its least refusal
abbrev pub after_percent : Before → ℕ → Bool → Result Before Refusal
after_percent before len ended = unless_refused (percent_refusal before len ended) (next before len ended)

-- what was read after one line more before the first or after the second `%` line, or its least
-- refusal
abbrev pub after_outer : Before → ℕ → Bool → Result Before Refusal
after_outer before len ended = unless_refused (outer_refusal before len ended) (next before len ended)

-- what a text is: its programs, or its one refusal
abbrev pub Answer : Type 0
Answer = Result (List Program) TextFault

-- the fault of a tape without any O number: told of its first `%` line
abbrev pub no_program : Before → TextFault
no_program before = record { number = refusal_number NoProgramNumber; line = before.percent }

-- the answer at the end of a tape with both `%` lines: its programs, if it has any
abbrev pub answer_at_end : Before → Answer
answer_at_end before = if is_none before.current then Err (no_program before) else Ok (programs_of before)

-- the answer at the end of a tape without a second `%` line: it has no O number, or no end, which
-- is told of its last line
abbrev pub answer_without_end : Before → Answer
answer_without_end before =
    if is_none before.current then Err (no_program before)
    else Err (record { number = refusal_number NoEnd; line = before.lines })

-- the answer at the end of a text without any `%` line: told of line 1
abbrev pub not_begun : Answer
not_begun = Err (record { number = refusal_number NoProgramNumber; line = 1 })

-- the answer after a line: its refusal, or what the rest makes of what was read with it
abbrev pub goes_on : Before → Result Before Refusal → (Before → Answer) → Answer
goes_on before (Ok after) rest = rest after
goes_on before (Err refusal) rest = Err (fault_behind before refusal)

-- the answer of a text whose second `%` line has been read, and of which these lines are left,
-- after what was read
abbrev pub in_rest : List Line → Before → Answer
in_rest [] before = answer_at_end before
in_rest (line ∷ lines) before = goes_on before (after_outer before (length line.bytes) line.ended) (in_rest lines)

-- the answer of a text whose first `%` line has been read but not the second, and of which these
-- lines are left
abbrev pub in_body : ℕ → List Line → Before → Answer
in_body skips [] before = answer_without_end before
in_body skips (line ∷ lines) before =
    if is_percent line.bytes then goes_on before (after_percent before (length line.bytes) line.ended) (in_rest lines)
    else goes_on before (after_line skips before line.bytes line.ended) (in_body skips lines)

-- what was read, if its last line is the first `%` line
abbrev pub tape_begun : Before → Before
tape_begun before = record before { percent = before.lines }

-- the answer of a text whose first `%` line has not been read, and of which these lines are left
abbrev pub in_leader : ℕ → List Line → Before → Answer
in_leader skips [] before = not_begun
in_leader skips (line ∷ lines) before =
    if is_percent line.bytes then goes_on before (after_percent before (length line.bytes) line.ended) (λ after. in_body skips lines (tape_begun after))
    else goes_on before (after_outer before (length line.bytes) line.ended) (in_leader skips lines)

-- the tape of a text, or its one fault; bit n of skips is switch n
unfoldable pub tape_of : ℕ → List ℕ → Answer
tape_of skips text = in_leader skips (lines_of text) nothing_read
