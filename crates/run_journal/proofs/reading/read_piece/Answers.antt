-- A body that is read as a batch is read as a piece (`read_piece`, src/reading.rt).
use Rattle.run_journal.proofs.Records.{piece_read}
use Rattle.run_journal.proofs.reading.read_piece.Goals as goal

pub returns-in-Ok-clause-read : goal.returns-in-Ok-clause-read
returns-in-Ok-clause-read c = piece_read c.args.version c.args.at c.args.body.now c.args.entries.now.items c.read_batch.new.entries.items c.args.offsets.now.items c.read_batch.new.offsets.items c.in-Ok.ensures.read
