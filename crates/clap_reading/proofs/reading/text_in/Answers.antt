-- The text that `text_in` finds for a name is the first in clap's rows (src/reading.rt).
use Rattle.std.proofs.Common.{◌∙◌}
use Rattle.clap.proofs.WalkLemmas.{first_value-rows}
use Rattle.clap.specs.Words.{found_of}
use Rattle.clap_reading.proofs.reading.text_in.Goals as goal

pub returns : goal.returns
returns c = c.get_str.ensures ∙ first_value-rows (found_of c.args.given.now) c.args.id.now
