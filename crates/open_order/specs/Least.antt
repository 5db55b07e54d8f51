-- What it means that the refusal of a tape is that of its refused block on the least line. The law
-- of src/laws.rt says it for readers; no other crate uses it.
use Rattle.std.specs.Prelude.{◌≡◌, ℕ, ◌≤◌, List, Err, Contains}
use Rattle.nc_text.specs.declared.tape.Block.{Block}
use Rattle.nc_text.specs.declared.tape.Program.{Program}
use Rattle.nc_text.specs.Shape.{blocks_in}
use Rattle.tape_flow.specs.declared.fault.FlowFault.{FlowFault}
use Rattle.open_order.specs.declared.premises.Premises.{Premises}
use Rattle.open_order.specs.Reading.{Basis, block_read}
use Rattle.open_order.specs.Exact.{refusal}

-- what a block of this tape is read over
abbrev pub basis_of : Premises → List Program → Basis
basis_of premises tape = record { premises = premises; tape = tape }

-- a block of the tape at this line is refused so, and none at a lower line is refused
pub record IsLeastRefused (premises : Premises) (tape : List Program) (line number : ℕ) : Type 0 where
  -- the block that is refused
  pub block : Block
  -- the tape has it
  pub there : Contains (blocks_in tape) block
  -- the block is at this line
  pub at : block.line ≡ line
  -- the block is refused by this number
  pub refused : block_read (basis_of premises tape) block ≡ Err (refusal line number)
  -- every block of the tape that is refused is at this line or behind it
  pub least : (other : Block) (fault : FlowFault) → Contains (blocks_in tape) other
      → block_read (basis_of premises tape) other ≡ Err fault → line ≤ other.line
