-- The blocks of a program in its order, and to whose numbers a path may be led. src/targets.rt
-- computes it.
use Rattle.std.specs.Prelude.{◌≡◌, ℕ, Bool, false, ◌||◌, List, map, Option, Some, None}
use Rattle.block_order.specs.declared.program.ControlBlock.{ControlBlock}
use Rattle.block_order.specs.declared.program.ControlProgram.{ControlProgram}
use Rattle.known_blocks.specs.declared.aims.Aims.{Aims}
use Rattle.known_blocks.specs.Entries.{is_among, some_jump, some_return_in}
use Rattle.plain_blocks.specs.declared.targets.Stand.{Stand}

-- a path may be led to this number, by a jump of these blocks, which are its program's, or by an M99
-- of the tape
abbrev pub is_led_to : List ControlProgram → List ControlBlock → Option ℕ → Bool
is_led_to tape own None = false
is_led_to tape own (Some n) = some_jump own n || some_return_in tape n

-- a block in the order of its program
abbrev pub stand_of : List ControlProgram → List ControlBlock → ControlBlock → Stand
stand_of tape own block = record { line = block.line; sequence = block.sequence; control = block.control; target = is_led_to tape own block.sequence }

-- the blocks of a program in its order
abbrev pub stands_of : List ControlProgram → List ControlBlock → List Stand
stands_of tape own = map (stand_of tape own) own

-- what was noted are these jumps and returns
pub record AreNoted (tape : List ControlProgram) (own : List ControlBlock) (jumps returns : Aims) : Type 0 where
  pub own_jumps : (n : ℕ) → is_among jumps n ≡ some_jump own n
  pub all_returns : (n : ℕ) → is_among returns n ≡ some_return_in tape n
