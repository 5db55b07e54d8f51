-- The loops of the program fit, so they have a table. For the contract of `program_tables`
-- (src/tables.rt).
use Rattle.std.proofs.Common.{sym, subst}
use Rattle.block_order.specs.Fitting.{Fits}
use Rattle.block_order.proofs.tables.program_tables.Goals as goal

pub of-requires-2-clause-fit : goal.of-requires-2-clause-fit
of-requires-2-clause-fit c = subst Fits (sym c.as_slice-blocks.ensures) c.requires.fit
