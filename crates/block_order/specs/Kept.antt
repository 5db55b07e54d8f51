-- What the types DraftOrder and BlockOrder keep of a tape's order of blocks. A program is loud if
-- it has a wait or an end, or calls one that has. For src/draft.rt and src/order.rt alone.
use Rattle.std.specs.Prelude.{List}
use Rattle.block_order.specs.declared.loud.LoudPrograms.{LoudPrograms}
use Rattle.block_order.specs.declared.program.ControlProgram.{ControlProgram}
use Rattle.block_order.specs.declared.tables.ProgramTables.{ProgramTables}
use Rattle.block_order.specs.Faults.{Fitting, Finding, IsClear, IsSound}
use Rattle.block_order.specs.Heard.{AreFlagsOf}
use Rattle.block_order.specs.Shape.{IsReadTape}
use Rattle.block_order.specs.TapeTable.{IsTapeTables}

-- What a draft of an order keeps: programs that fit together and whose jumps and calls find what
-- they name, with the tables and the loud programs of just these.
pub record IsDrafted (tape : List ControlProgram) (tables : List ProgramTables) (known : LoudPrograms) : Type 0 where
  -- The programs are such as a tape that was read has.
  pub listed : IsReadTape tape
  -- Programs and loops fit together.
  pub fits : IsClear tape Fitting
  -- Jumps and calls find what they name.
  pub finds : IsClear tape Finding
  -- The tables are those of the programs.
  pub tables_are : IsTapeTables tape tables
  -- The places and the flags of loud programs are those of the tape.
  pub loud_are : AreFlagsOf tape known

-- What an order keeps: programs whose waits, besides, stay in order, with the tables and the loud
-- programs of just these.
pub record IsKept (tape : List ControlProgram) (tables : List ProgramTables) (known : LoudPrograms) : Type 0 where
  -- The programs are such as a tape that was read has.
  pub listed : IsReadTape tape
  -- Nothing is wrong with the order of their blocks.
  pub sound : IsSound tape
  -- The tables are those of the programs.
  pub tables_are : IsTapeTables tape tables
  -- The places and the flags of loud programs are those of the tape.
  pub loud_are : AreFlagsOf tape known
