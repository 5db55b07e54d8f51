-- The command so far is that of the row's words so far (loop of `named`,
-- src/grammar.rt).
use Rattle.std.proofs.Common.{map, take}
use Rattle.std.specs.List.{fold}
use Rattle.clap.specs.Words.{new_app}
use Rattle.clap_reading.specs.Grammar.{IsRead, with_name_rule}
use Rattle.clap_reading.proofs.grammar.named.Given as goal

abbrev pub invariant-loop-id : goal.invariant-loop-id
invariant-loop-id l = IsRead (fold with_name_rule (new_app l.row.name.now) (map (λ id. id.now) (take l.id-index l.row.words.now))) l.command
