-- An option of a command may stand anywhere among the names, its text attached, or apart if that
-- may be a name (a law of src/laws.rt).
use Rattle.command_words.proofs.PlainWords.{blocks_is, option_apart, option_attached, outside_is, turret1_is, turret2_is}
use Rattle.command_words.proofs.laws.law_of_options.Goals as goal

pub returns-clause-apart : goal.returns-clause-apart
returns-clause-apart c = option_apart

pub returns-clause-attached : goal.returns-clause-attached
returns-clause-attached c = option_attached

pub returns-clause-blocks : goal.returns-clause-blocks
returns-clause-blocks c = blocks_is

pub returns-clause-outside : goal.returns-clause-outside
returns-clause-outside c = outside_is

pub returns-clause-turret1 : goal.returns-clause-turret1
returns-clause-turret1 c = turret1_is

pub returns-clause-turret2 : goal.returns-clause-turret2
returns-clause-turret2 c = turret2_is
