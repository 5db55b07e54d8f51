-- On the command line words that do not begin with `-` are names, and so are all words after `--`
-- (a law of src/laws.rt).
use Rattle.command_words.proofs.PlainWords.{behind_dashes, names_alone}
use Rattle.command_words.proofs.laws.law_of_names.Goals as goal

pub returns-clause-names : goal.returns-clause-names
returns-clause-names c = names_alone

pub returns-clause-dashes : goal.returns-clause-dashes
returns-clause-dashes c = behind_dashes
