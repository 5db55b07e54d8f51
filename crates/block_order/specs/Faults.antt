-- What is wrong with the order of a tape's blocks, apart from any code that finds it, and which
-- fault is answered. A program is loud if it has a wait or an end, or calls one that has; a stretch
-- is the run of its blocks up to and with a wait, an end, an M99 without a number or a call of a
-- loud program.
use Rattle.std.specs.Prelude.{◌≡◌, ◌≢◌, ℕ, zero, suc, ◌<◌, ◌≤◌, ◌==◌, true, ◌⊎◌, List, ◌∷◌, ◌++◌, map, Option, Some, None, Err, Contains, slice_get, if◌then◌else◌}
use Rattle.nc_number.specs.declared.cause.Cause.{Cause}
use Rattle.nc_number.specs.declared.cause.Cause.TheVariants.{ProgramTwice, LoopMismatch, NoProgram, BranchAtWait, WaitTooDeep}
use Rattle.nc_number.specs.Causes.{cause_number}
use Rattle.block_order.specs.declared.control.Control.{Control}
use Rattle.block_order.specs.declared.control.Control.TheVariants.{Goto, Call, BackTo}
use Rattle.block_order.specs.declared.program.ControlBlock.{ControlBlock}
use Rattle.block_order.specs.declared.program.ControlProgram.{ControlProgram}
use Rattle.block_order.specs.Order.{program_of, blocks, main_number, control_at, target_of, IsLoop}
use Rattle.block_order.specs.Loud.{loud, stretch}
use Rattle.block_order.specs.Labels.{IsTarget, Counts}
use Rattle.block_order.specs.Loops.{IsMismatch}

-- Faults are looked for in this order: whether programs and loops fit together, whether jumps and
-- calls find what they name, whether waits stay in order.
pub data Stage : Type 0 where
  -- Programs and loops fit together.
  Fitting : Stage
  -- Jumps and calls find what they name.
  Finding : Stage
  -- Waits stay in order.
  Waiting : Stage

-- The sequence number that a jump of the program names once for all: a fixed GOTO, and an M99 P of
-- the main program.
abbrev pub fixed_number : List ControlProgram → ℕ → Control → Option ℕ
fixed_number tape program (Goto n) = n
fixed_number tape program (BackTo n) = if program == main_number tape then Some n else None
fixed_number tape program other = None

-- A chain of n calls leads from the program `from` to the other program, and each program that the
-- chain calls is loud.
abbrev pub IsReachedBy : List ControlProgram → ℕ → ℕ → ℕ → Type 0
IsReachedBy tape zero from program = from ≡ program
IsReachedBy tape (suc n) from program =
    (caller place repeats : ℕ) × IsReachedBy tape n from caller
    × (control_at (blocks tape caller) place ≡ Some (Call program repeats)) × (loud tape program ≡ true)

-- The program has this block at this place.
abbrev pub Stands : List ControlProgram → ℕ → ℕ → ControlBlock → Type 0
Stands tape program place block = slice_get (blocks tape program) place ≡ Some block

-- A block at this place of the program may pass a wait: in the main program or a loud one a jump of
-- it may lead to another stretch, or the loop that it ends begins in another one; or it is an M99 P
-- in a loud program other than the main one.
pub data Strays (tape : List ControlProgram) (program place : ℕ) (block : ControlBlock) : Type 0 where
  -- A jump of the block may lead to another stretch.
  jump : (target : ℕ) → Counts tape program → IsTarget tape program place block.control target
      → stretch (loud tape) (blocks tape program) place ≢ stretch (loud tape) (blocks tape program) target
      → Strays tape program place block
  -- The loop that ends at the block begins in another stretch.
  loop : (head : ℕ) → Counts tape program → IsLoop (blocks tape program) head place
      → stretch (loud tape) (blocks tape program) head ≢ stretch (loud tape) (blocks tape program) place
      → Strays tape program place block
  -- The block is an M99 P of a loud program other than the main one.
  back : (n : ℕ) → loud tape program ≡ true → program ≢ main_number tape → block.control ≡ BackTo n
      → Strays tape program place block

-- A fault of a stage, at a line.
pub data HasFault (tape : List ControlProgram) : Stage → ℕ → Cause → Type 0 where
  -- An O number given before; the line is the later one.
  twice : (before after : List ControlProgram) (program : ControlProgram) → tape ≡ before ++ program ∷ after
      → Contains (map (λ p. p.number) before) program.number → HasFault tape Fitting program.line ProgramTwice
  -- Heads and ends of loops that don't fit together.
  mismatch : (program : ControlProgram) (place : ℕ) (block : ControlBlock) → Contains tape program
      → slice_get program.blocks place ≡ Some block → IsMismatch program.blocks place
      → HasFault tape Fitting block.line LoopMismatch
  -- A jump to a sequence number that its program lacks, or into a loop that does not hold it.
  lost : (program place n : ℕ) (block : ControlBlock) (cause : Cause) → Stands tape program place block
      → fixed_number tape program block.control ≡ Some n → target_of (blocks tape program) place n ≡ Err cause
      → HasFault tape Finding block.line cause
  -- A call of a program that the tape lacks.
  unknown : (program place called repeats : ℕ) (block : ControlBlock) → Stands tape program place block
      → block.control ≡ Call called repeats → program_of tape called ≡ None → HasFault tape Finding block.line NoProgram
  -- A jump, an END or a return that may pass a wait.
  strays : (program place : ℕ) (block : ControlBlock) → Stands tape program place block → Strays tape program place block
      → HasFault tape Waiting block.line BranchAtWait
  -- A ninth call of a chain of calls of loud programs that begins in the main program.
  deep : (program place called repeats : ℕ) (block : ControlBlock) → IsReachedBy tape 8 (main_number tape) program
      → Stands tape program place block → block.control ≡ Call called repeats → loud tape called ≡ true
      → HasFault tape Waiting block.line WaitTooDeep

-- No line of the tape has this fault of waits.
abbrev pub IsFreeOf : List ControlProgram → Cause → Type 0
IsFreeOf tape cause = (line : ℕ) → HasFault tape Waiting line cause → ⊥

-- The tape has no fault of this stage.
abbrev pub IsClear : List ControlProgram → Stage → Type 0
IsClear tape stage = (line : ℕ) (cause : Cause) → HasFault tape stage line cause → ⊥

-- The stages before this one have no fault.
abbrev pub IsClearBefore : List ControlProgram → Stage → Type 0
IsClearBefore tape Fitting = Unit {0}
IsClearBefore tape Finding = IsClear tape Fitting
IsClearBefore tape Waiting = IsClear tape Fitting × IsClear tape Finding

-- Nothing is wrong with the order of the tape's blocks: each of the three stages is clear.
pub record IsSound (tape : List ControlProgram) : Type 0 where
  -- Programs and loops fit together.
  pub fits : IsClear tape Fitting
  -- Jumps and calls find what they name.
  pub finds : IsClear tape Finding
  -- Waits stay in order.
  pub waits : IsClear tape Waiting

-- One line is before the other, or it is the same and the cause has the lower number.
abbrev pub IsNoLater : ℕ → Cause → ℕ → Cause → Type 0
IsNoLater line cause other_line other = (line < other_line) ⊎ ((line ≡ other_line) × (cause_number cause ≤ cause_number other))

-- The fault that is answered: of the first stage that has one, the least line, and on it the least
-- number.
pub record IsFirst (tape : List ControlProgram) (line : ℕ) (cause : Cause) : Type 0 where
  -- The stage of the fault.
  pub stage : Stage
  -- No earlier stage has a fault.
  pub before : IsClearBefore tape stage
  -- The fault is one of that stage.
  pub holds : HasFault tape stage line cause
  -- No fault of that stage is earlier.
  pub least : (other_line : ℕ) (other : Cause) → HasFault tape stage other_line other → IsNoLater line cause other_line other
