-- The rows of the commands in the code are those of specs/Table.antt (src/table.rt).
use Rattle.std.proofs.Common.{refl}
use Rattle.command_words.specs.Table.{listings}
use Rattle.command_words.proofs.table.rows.Goals as goal

pub returns : goal.returns
unfolding listings
returns c = refl
