-- The command so far is that of the row's words and its options so far (loop of
-- `subcommand`, src/grammar.rt).
use Rattle.std.proofs.Common.{map, take}
use Rattle.std.specs.List.{fold}
use Rattle.command_words.specs.Table.{row_seen}
use Rattle.clap_reading.specs.Grammar.{IsRead, with_option_rule, with_words}
use Rattle.clap_reading.proofs.grammar.subcommand.Given as goal

abbrev pub invariant-loop-id : goal.invariant-loop-id
invariant-loop-id l = IsRead (fold with_option_rule (with_words (row_seen l.row)) (map (λ id. id.now) (take l.id-index l.row.options.now))) l.command
