-- Which tapes are accepted, and the one refusal of every other tape: what `compile` (src/flow.rt)
-- promises.
use Rattle.std.specs.Prelude.{◌≡◌, ℕ, ◌≤◌, List, Ok, Err, Contains}
use Rattle.nc_number.specs.declared.cause.Cause.{Cause}
use Rattle.nc_number.specs.Causes.{cause_number}
use Rattle.cell_settings.specs.declared.settings.Settings.{Settings}
use Rattle.nc_text.specs.declared.tape.Block.{Block}
use Rattle.nc_text.specs.declared.tape.Program.{Program}
use Rattle.nc_text.specs.Shape.{blocks_in}
use Rattle.block_words.specs.declared.dialect.Dialect.{Dialect}
use Rattle.block_forms.specs.Forms.{block_or_refusal}
use Rattle.block_order.specs.declared.program.ControlProgram.{ControlProgram}
use Rattle.block_order.specs.Faults.{IsSound, IsFirst}
use Rattle.tape_flow.specs.Forms.{ProgramForm, programs_read}
use Rattle.tape_flow.specs.Controls.{controls}

-- how the settings say that tapes are read: the wait codes, how P names paths, the code system
abbrev pub dialect_of : Settings → Dialect
dialect_of settings =
    record { low = settings.wait_low; high = settings.wait_high; bits = settings.bits; system = settings.system }

-- a block of the tape stands at this line and is refused by this number
abbrev pub HasBlockFault : Dialect → List Program → ℕ → ℕ → Type 0
HasBlockFault dialect tape line number =
    (block : Block) × Contains (blocks_in tape) block × (block.line ≡ line) × (block_or_refusal dialect block ≡ Err number)

-- the first fault of this order of blocks is at this line and has this number
abbrev pub IsOrderFault : List ControlProgram → ℕ → ℕ → Type 0
IsOrderFault order line number = (cause : Cause) × IsFirst order line cause × (number ≡ cause_number cause)

-- the tape is accepted, and its blocks say this
pub record IsAccepted (dialect : Dialect) (tape : List Program) (programs : List ProgramForm) : Type 0 where
  -- no block is refused, and the programs say this
  pub reads : programs_read dialect tape ≡ Ok programs
  -- nothing is wrong with the order of the blocks
  pub sound : IsSound (controls programs)

-- The refusal of a tape: the first block that is refused, or, where all blocks read, the first
-- fault of their order.
pub data IsRefused (dialect : Dialect) (tape : List Program) (line number : ℕ) : Type 0 where
  -- the first block that is refused
  block : HasBlockFault dialect tape line number
      → ((other_line other : ℕ) → HasBlockFault dialect tape other_line other → line ≤ other_line)
      → IsRefused dialect tape line number
  -- the first fault of the order, if all blocks read
  order : (programs : List ProgramForm) → programs_read dialect tape ≡ Ok programs
      → IsOrderFault (controls programs) line number
      → IsRefused dialect tape line number
