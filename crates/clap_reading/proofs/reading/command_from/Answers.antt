-- `command_from` makes the command of the row of the names and texts that clap found
-- (src/reading.rt).
use Rattle.std.proofs.Common.{map, rules, sym}
use Rattle.clap.specs.Words.{found_of, rows_of}
use Rattle.command_words.specs.Table.{row_seen}
use Rattle.clap_reading.proofs.FromMatches.{from_names}
use Rattle.clap_reading.proofs.reading.command_from.Goals as goal

pub returns-in-Some : goal.returns-in-Some
returns-in-Some c =
    from_names (rows_of (found_of c.args.given.now)) (row_seen c.args.row.now) (map (λ s. s.now) c.in-Some.names.items) _ c.command_of.result
    (search rules) (sym c.texts_at.ensures) (search rules)
