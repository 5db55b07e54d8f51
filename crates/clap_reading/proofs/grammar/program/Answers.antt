-- `program` adds one row more at each turn; after the last the command is the program's
-- (src/grammar.rt).
use Rattle.std.proofs.Common.{[], arith}
use Rattle.clap_reading.specs.Grammar.{bare_app, with_row}
use Rattle.command_words.specs.Table.{row_seen}
use Rattle.command_words.specs.declared.table.Row.{Row}
use Rattle.command_words.specs.declared.table.Task.TheVariants.{Verify}
use Rattle.clap_reading.proofs.Building.{adds_subcommand, all_taken, one_more}
use Rattle.clap_reading.proofs.grammar.program.Goals as goal

-- The row that is read if a list has none.
abbrev no_row : Row
no_row = record { name = record { ref_ptr = (0, 0); now = [] }; words = record { ref_ptr = (0, 0); now = [] }; further = record { ref_ptr = (0, 0); now = [] }; options = record { ref_ptr = (0, 0); now = [] }; task = Verify }

pub loop-row-preserved : goal.loop-row-preserved
loop-row-preserved c =
    one_more with_row bare_app row_seen c.rows-rows.result.now c.loop-row.row-index no_row c.in_ok-program.program (omega arith)
    (adds_subcommand _ _ c.loop-row.program c.in_ok-subcommand.field-0 c.in_ok-program.program c.loop-row.invariant c.in_ok-subcommand.ensures c.in_ok-program.ensures)

pub returns : goal.returns
returns c = all_taken c.rows-rows.result.now c.loop-row.row-index c.loop-row.program (omega arith) c.rows-rows.ensures c.loop-row.invariant
