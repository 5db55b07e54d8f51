-- What it means that a jump may take any block of a number that stands twice: the blocks lie in one
-- stretch, and so the labels ahead stay. The law of src/laws.rt says it for readers; no other crate uses
-- it.
use Rattle.std.specs.Prelude.{◌≡◌, ◌≢◌, ℕ, true, List, ◌∷◌, Some, slice_get}
use Rattle.block_order.specs.declared.control.Control.{Control}
use Rattle.block_order.specs.declared.frame.Frame.{Frame}
use Rattle.block_order.specs.declared.program.ControlBlock.{ControlBlock}
use Rattle.block_order.specs.declared.program.ControlProgram.{ControlProgram}
use Rattle.block_order.specs.Loud.{loud, stretch}
use Rattle.block_order.specs.Labels.{Counts, labels_ahead}
use Rattle.block_order.specs.Moves.{frame_at_block}
use Rattle.block_order.specs.Order.{blocks, control_at}
use Rattle.block_order.specs.Steps.{IsPlace}
use Rattle.open_order.specs.Doubles.{may_mean}

-- the block at a place of these has the number
abbrev pub HasNumber : List ControlBlock → ℕ → ℕ → Type 0
HasNumber bs n place = (b : ControlBlock) × (slice_get bs place ≡ Some b) × (b.sequence ≡ Some n)

-- the block at this place of the program may jump to the number, which stands at the target and at another
-- block of the program
pub record MayLead (tape : List ControlProgram) (program place target : ℕ) : Type 0 where
  -- the control of the block
  pub control : Control
  pub is : control_at (blocks tape program) place ≡ Some control
  -- the number, which the block may mean
  pub number : ℕ
  pub means : may_mean tape program control number ≡ true
  -- it stands at the target
  pub there : HasNumber (blocks tape program) number target
  -- and at another block
  pub other : ℕ
  pub too : HasNumber (blocks tape program) number other
  pub apart : target ≢ other

-- In each program on which labels depend, a block lies in one stretch with each block to which it may lead
-- so; and wherever a path stands at the block, a jump there leaves the labels ahead as they were.
pub record AreTogether (tape : List ControlProgram) : Type 0 where
  -- both blocks lie in one stretch
  pub stretches : (program place target : ℕ) → Counts tape program → MayLead tape program place target
      → stretch (loud tape) (blocks tape program) place ≡ stretch (loud tape) (blocks tape program) target
  -- the labels ahead stay
  pub labels : (f : Frame) (stack : List Frame) (target : ℕ) → IsPlace tape (f ∷ stack)
      → MayLead tape f.program f.block target
      → labels_ahead tape (frame_at_block f target ∷ stack) ≡ labels_ahead tape (f ∷ stack)
