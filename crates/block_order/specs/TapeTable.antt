-- What the tables of a tape's programs (src/tables.rt) say.
use Rattle.std.specs.Prelude.{◌≡◌, ℕ, List, length, Some, slice_get}
use Rattle.block_order.specs.declared.program.ControlBlock.{ControlBlock}
use Rattle.block_order.specs.declared.program.ControlProgram.{ControlProgram}
use Rattle.block_order.specs.declared.tables.ProgramTables.{ProgramTables}
use Rattle.block_order.specs.Places.{IsIndexOf}
use Rattle.block_order.specs.Table.{IsLoopTable}

-- The tables are those of this program's blocks: of their sequence numbers and of their loops.
pub record IsProgramTables (bs : List ControlBlock) (tables : ProgramTables) : Type 0 where
  -- The blocks by their sequence numbers.
  pub index : IsIndexOf bs tables.index
  -- Their loops.
  pub loops : IsLoopTable bs tables.loops

-- The list has the tables of each program of the tape, in the order of the text.
pub record IsTapeTables (tape : List ControlProgram) (tables : List ProgramTables) : Type 0 where
  -- There are as many tables as programs.
  pub long : length tables ≡ length tape
  -- Each program has its own at its place.
  pub each : (place : ℕ) (program : ControlProgram) → slice_get tape place ≡ Some program
      → (own : ProgramTables) × (slice_get tables place ≡ Some own) × IsProgramTables program.blocks own
