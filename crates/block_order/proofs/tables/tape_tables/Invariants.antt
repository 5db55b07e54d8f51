-- The programs so far have their tables. What the loop of `tape_tables` keeps (src/tables.rt).
use Rattle.std.proofs.Common.{◌≡◌, length}
use Rattle.block_order.proofs.MoreTables.{EachTables}
use Rattle.block_order.proofs.tables.tape_tables.Given as goal

abbrev pub invariant-loop-program : goal.invariant-loop-program
invariant-loop-program l = record {
  long : length l.programs.items ≡ l.program-index;
  each : EachTables l.tape l.program-index l.programs.items;
}
