-- What becomes of the blocks of a tape: a block of this control's language stays, and forms write
-- the others out. src/walk.rt computes `steps_of`.
use Rattle.std.specs.Prelude.{ℕ, ◌+◌, ◌-◌, Bool, true, false, not, ◌&&◌, ◌||◌, ◌==◌, nat_lt, min, ◌^◌, List, [], ◌∷◌, ◌++◌, length, map, Option, Some, None, Result, Ok, Err, slice_get, if◌then◌else◌}
use Rattle.nc_text.specs.declared.tape.Block.{Block}
use Rattle.nc_text.specs.declared.tape.Program.{Program}
use Rattle.nc_number.specs.declared.fault.Failing.{Failing}
use Rattle.nc_number.specs.declared.fault.Failing.TheVariants.{Fault}
use Rattle.block_order.specs.declared.program.ControlProgram.{ControlProgram}
use Rattle.known_blocks.specs.declared.known.Known.{Known}
use Rattle.known_blocks.specs.Entries.{is_head, is_left_otherwise}
use Rattle.plain_form.specs.declared.answer.FormAnswer.{FormAnswer}
use Rattle.plain_form.specs.declared.answer.FormAnswer.TheVariants.{NotMine, Refused, Written}
use Rattle.plain_form.specs.declared.answer.WrittenLine.{WrittenLine}
use Rattle.plain_form.specs.declared.cause.PlainCause.{PlainCause}
use Rattle.plain_form.specs.declared.cause.PlainCause.TheVariants as cause
use Rattle.plain_form.specs.declared.cause.PlainFault.{PlainFault}
use Rattle.plain_blocks.specs.declared.step.Step.{Step}
use Rattle.plain_blocks.specs.declared.step.Step.TheVariants as step
use Rattle.plain_blocks.specs.declared.targets.Stand.{Stand}
use Rattle.plain_blocks.specs.declared.walk.Rules.{Rules}
use Rattle.plain_blocks.specs.declared.passing.Passed.{Passed}
use Rattle.plain_blocks.specs.Asking.{ask, scene_of}
use Rattle.plain_blocks.specs.Order.{order_block, order_tape}
use Rattle.plain_blocks.specs.Passing.{goes_on, own_block, pass_blocks}
use Rattle.plain_blocks.specs.Targets.{stands_of}

-- a path may come behind this block otherwise than from it, or there is none
abbrev pub is_left_from : Option Stand → Bool
is_left_from None = true
is_left_from (Some stand) = is_left_otherwise stand.control

abbrev pub is_left_by : List Stand → ℕ → Bool
is_left_by stands place = is_left_from (slice_get stands place)

-- a path may come to this block from elsewhere
abbrev pub is_entered_from : Option Stand → Bool
is_entered_from None = false
is_entered_from (Some stand) = stand.target || is_head stand.control

abbrev pub is_entered_by : List Stand → ℕ → Bool
is_entered_by stands place = is_entered_from (slice_get stands place)

-- a path may come to the block in this place otherwise than from the one before it
abbrev pub is_entry_at : List Stand → ℕ → Bool
is_entry_at stands place =
    if place == 0 then true else is_left_by stands (place - 1) || is_entered_by stands place

-- what is known before the block in this place
abbrev pub known_at : Rules → List Stand → ℕ → Known → Known
known_at rules stands place known = if is_entry_at stands place then rules.anywhere else known

-- the mark that was found
abbrev pub mark_of : Option Bool → Bool
mark_of None = false
mark_of (Some marked) = marked

-- the line has a mark
abbrev pub is_marked : List Bool → ℕ → Bool
is_marked marks line = mark_of (slice_get marks (line - 1))

-- the number of a line stays: it is the first of its form, and a block stands in its place
abbrev pub keeps_number : Bool → List Block → Bool
keeps_number is_first [] = false
keeps_number is_first (block ∷ blocks) = is_first

-- why a line may not be written out: it does more than go on, a path may be led to its number, which
-- goes, or it has a skip sign
abbrev pub line_cause : Rules → Bool → Stand → Option PlainCause
line_cause rules keeps stand =
    if not (goes_on stand.control) then Some cause.Control
    else if not keeps && stand.target then Some cause.Target
    else if is_marked rules.skips stand.line then Some cause.Skip
    else None

-- what is known, or why not at this line
abbrev pub at_line : ℕ → Result Known PlainCause → Result Known PlainFault
at_line line (Ok known) = Ok known
at_line line (Err why) = Err (record { line = line; cause = why })

-- what is known behind a line that is written out, if nothing is against it
abbrev pub line_by : Option PlainCause → ℕ → Result Known PlainCause → Result Known PlainFault
line_by None line behind = at_line line behind
line_by (Some why) line behind = Err (record { line = line; cause = why })

-- what is known behind a line that is written out, or why it may not be
abbrev pub pass_line : Rules → Bool → Stand → Known → List Block → Result Known PlainFault
pass_line rules is_first stand known blocks =
    line_by (line_cause rules (keeps_number is_first blocks) stand) stand.line (pass_blocks rules.dialect known blocks)

-- the same where the block is found
abbrev pub line_found : Rules → Bool → Option Stand → Known → List Block → Result Known PlainFault
line_found rules is_first None known blocks = Err (record { line = 0; cause = cause.Contour })
line_found rules is_first (Some stand) known blocks = pass_line rules is_first stand known blocks

-- what is known behind the line of the block in this place
abbrev pub lines_at : Rules → List Stand → Bool → ℕ → Known → WrittenLine → Result Known PlainFault
lines_at rules stands is_first place known line = line_found rules is_first (slice_get stands place) known line.blocks

-- the next place
abbrev pub next_place : ℕ → ℕ
next_place place = min (place + 1) (2 ^ 64 - 1)

-- what the next step makes of what is known
abbrev pub and_then : {A : Type 0} → Result Known PlainFault → (Known → Result A PlainFault) → Result A PlainFault
and_then (Ok known) next = next known
and_then (Err fault) next = Err fault

-- what is known behind the lines of a form from this place on, or why they may not be written out
abbrev pub pass_lines : Rules → List Stand → Bool → ℕ → Known → List WrittenLine → Result Known PlainFault
pass_lines rules stands is_first place known [] = Ok known
pass_lines rules stands is_first place known (line ∷ lines) =
    and_then (lines_at rules stands is_first place known line)
    (λ behind. pass_lines rules stands false (next_place place) behind lines)

-- a step of the walk: what is known behind it, and what became of the blocks so far
pub record Walked : Type 0 where
  pub known : Known
  pub steps : List Step

-- the refusal of a block that no form takes
abbrev pub no_form : ℕ → Failing PlainFault
no_form line = Fault (record { line = line; cause = cause.NoForm })

-- what becomes of a block's line, if there is one
abbrev pub replaced_by : Option Stand → WrittenLine → List Step
replaced_by None line = []
replaced_by (Some stand) line =
    step.Written (record { line = stand.line; sequence = stand.sequence; blocks = line.blocks }) ∷ []

-- what becomes of the lines of a form from this place on
abbrev pub replaced_from : List Stand → ℕ → List WrittenLine → List Step
replaced_from stands place [] = []
replaced_from stands place (line ∷ lines) =
    replaced_by (slice_get stands place) line ++ replaced_from stands (next_place place) lines

-- what the lines of a form make of the walk
abbrev pub with_lines : Rules → List Stand → ℕ → ℕ → Known → List Step → List WrittenLine → Result Walked PlainFault
with_lines rules stands place line known steps [] = Err (record { line = line; cause = cause.NoForm })
with_lines rules stands place line known steps (first ∷ others) =
    and_then (pass_lines rules stands true place known (first ∷ others))
    (λ behind. Ok (record { known = behind; steps = steps ++ replaced_from stands place (first ∷ others) }))

-- what a form's answer makes of the walk
abbrev pub with_answer : Rules → List Stand → ℕ → ℕ → Known → List Step → FormAnswer → Result Walked PlainFault
with_answer rules stands place line known steps NotMine = Err (record { line = line; cause = cause.NoForm })
with_answer rules stands place line known steps (Refused fault) = Err fault
with_answer rules stands place line known steps (Written lines) = with_lines rules stands place line known steps lines

-- what a block makes of the walk: it stays if it is one of this control's language, else a form is
-- asked
abbrev pub step_by : Rules → List Block → List Stand → ℕ → Block → Known → List Step → Option Passed → Result Walked PlainFault
step_by rules blocks stands place block known steps (Some passing) =
    Ok (record { known = passing.known; steps = steps ++ step.Kept ∷ [] })
step_by rules blocks stands place block known steps None =
    with_answer rules stands place block.line known steps (ask blocks place (scene_of rules.dialect.system known) rules.settings)

abbrev pub step_at : Rules → List Block → List Stand → ℕ → Block → Known → List Step → Result Walked PlainFault
step_at rules blocks stands place block known steps =
    step_by rules blocks stands place block known steps (own_block rules.dialect known block)

-- what a block makes of the walk, unless a form took it already
abbrev pub one_at : Rules → List Block → List Stand → ℕ → Block → Known → List Step → Result Walked PlainFault
one_at rules blocks stands place block known steps =
    if nat_lt place (length steps) then Ok (record { known = known; steps = steps })
    else step_at rules blocks stands place block (known_at rules stands place known) steps

-- the steps, or what the next block makes of them
abbrev pub walk_then : Result Walked PlainFault → (Walked → Result (List Step) PlainFault) → Result (List Step) PlainFault
walk_then (Ok walked) next = next walked
walk_then (Err fault) next = Err fault

-- what becomes of the blocks of a program from this place on
abbrev pub walk_from : Rules → List Block → List Stand → Known → List Step → ℕ → List Block → Result (List Step) PlainFault
walk_from rules blocks stands known steps place [] = Ok steps
walk_from rules blocks stands known steps place (block ∷ rest) =
    walk_then (one_at rules blocks stands place block known steps)
    (λ walked. walk_from rules blocks stands walked.known walked.steps (place + 1) rest)

-- what becomes of the blocks of a program of this tape
abbrev pub program_steps : Rules → List ControlProgram → List Block → Result (List Step) PlainFault
program_steps rules tape blocks =
    walk_from rules blocks (stands_of tape (map (order_block rules.dialect) blocks)) rules.anywhere [] 0 blocks

-- what the next programs make of the steps
abbrev pub steps_then : Result (List Step) PlainFault → (List Step → Result (List (List Step)) PlainFault) → Result (List (List Step)) PlainFault
steps_then (Ok steps) next = next steps
steps_then (Err fault) next = Err fault

-- what became of programs, and what becomes of these
abbrev pub steps_from : Rules → List ControlProgram → List (List Step) → List Program → Result (List (List Step)) PlainFault
steps_from rules tape done [] = Ok done
steps_from rules tape done (program ∷ programs) =
    steps_then (program_steps rules tape program.blocks) (λ steps. steps_from rules tape (done ++ steps ∷ []) programs)

-- what becomes of the blocks of a tape, program by program, or its first refusal
abbrev pub steps_of : Rules → List Program → Result (List (List Step)) PlainFault
steps_of rules tape = steps_from rules (order_tape rules.dialect tape) [] tape
