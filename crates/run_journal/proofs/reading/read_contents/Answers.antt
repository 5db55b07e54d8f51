-- Bodies of which the first is no header are refused as such at its offset (`read_contents`,
-- src/reading.rt).
use Rattle.std.proofs.Common.{◌∙◌}
use Rattle.run_journal.proofs.Openings.{no_header}
use Rattle.run_journal.proofs.reading.read_contents.Goals as goal

pub returns-in-Err-Bad-clause-refused : goal.returns-in-Err-Bad-clause-refused
returns-in-Err-Bad-clause-refused c = no_header c.args.bodies.now c.offset-offset.result c.requires c.offset-offset.ensures.place (λ header short same. c.in-Err-Bad.ensures.bad c.in-Err-Bad.field-0-is header short (c.body.ensures ∙ same))
