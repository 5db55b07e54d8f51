-- The command so far is that of the rows so far (loop of `program`, src/grammar.rt).
use Rattle.std.proofs.Common.{map, take}
use Rattle.std.specs.List.{fold}
use Rattle.clap_reading.specs.Grammar.{IsRead, bare_app, with_row}
use Rattle.command_words.specs.Table.{row_seen}
use Rattle.clap_reading.proofs.grammar.program.Given as goal

abbrev pub invariant-loop-row : goal.invariant-loop-row
invariant-loop-row l = IsRead (fold with_row bare_app (map row_seen (take l.row-index l.rows))) l.program
