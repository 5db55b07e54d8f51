-- A subcommand's name with a row has the command of the row, another has none (src/reading.rt).
use Rattle.std.proofs.Common.{rules}
use Rattle.clap.specs.Words.{found_of, rows_of}
use Rattle.command_words.specs.Table.{row_seen}
use Rattle.clap_reading.proofs.FromMatches.{in_no_row, in_row}
use Rattle.clap_reading.proofs.reading.command_in.Goals as goal

pub returns-in-Some : goal.returns-in-Some
returns-in-Some c =
    in_row (rows_of (found_of c.args.given.now)) c.args.name.now (row_seen c.in-Some.row) c.command_from.result (search rules) c.command_from.ensures

pub returns-in-None : goal.returns-in-None
returns-in-None c = in_no_row (rows_of (found_of c.args.given.now)) c.args.name.now (search rules)
