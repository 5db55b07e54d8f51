-- The command so far is that of the words that the row must have and of its further words so far
-- (loop of `worded`, src/grammar.rt).
use Rattle.std.proofs.Common.{map, take}
use Rattle.std.specs.List.{fold}
use Rattle.command_words.specs.Table.{row_seen}
use Rattle.clap_reading.specs.Grammar.{IsRead, with_further_rule, with_names}
use Rattle.clap_reading.proofs.grammar.worded.Given as goal

abbrev pub invariant-loop-id : goal.invariant-loop-id
invariant-loop-id l = IsRead (fold with_further_rule (with_names (row_seen l.row)) (map (λ id. id.now) (take l.id-index l.row.further.now))) l.command
