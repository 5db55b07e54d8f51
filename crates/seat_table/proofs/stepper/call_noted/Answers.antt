-- With one call more, a halt among the calls still means that the table has halted (`call_noted`,
-- src/stepper.rt).
use Rattle.seat_table.proofs.Telling.{call_told}
use Rattle.seat_table.proofs.stepper.call_noted.Goals as goal

pub returns-clause-told : goal.returns-clause-told
returns-clause-told g c = call_told c.args.pass.now c.note_halter.new.pass c.args.call c.note_halter.ensures c.requires.told c.requires.halted
