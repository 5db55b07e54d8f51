-- No two rows of commands have one name, and each gives a command for as many words `1` as it must
-- have, and for as many as it may have (src/laws.rt).
use Rattle.std.proofs.Common.{refl}
use Rattle.command_words.specs.Number.{number_of}
use Rattle.command_words.specs.Table.{listings}
use Rattle.command_words.proofs.laws.law_of_rows.Goals as goal

pub returns-clause-names : goal.returns-clause-names
unfolding listings
returns-clause-names c = refl

pub returns-clause-commands : goal.returns-clause-commands
unfolding listings number_of
returns-clause-commands c = refl
