-- What `read_tape` (src/reading.rt) answers is the tape of the text with no switch set, or its
-- refusal, whether the reader refuses in `feed` or at the end.
use Rattle.std.proofs.Common.{[]}
use Rattle.nc_text.proofs.RefusedAtEnd.{refused_at_end}
use Rattle.comma_words.proofs.reading.read_tape.Goals as goal

pub returns-in-Ok : goal.returns-in-Ok
returns-in-Ok c =
    c.finish.ensures.exact 0 c.args.text.now (c.in-Ok.ensures.reads 0 [] c.in_ok-reader.ensures.reads)

pub returns-in-Err : goal.returns-in-Err
returns-in-Err c =
    refused_at_end 0 c.args.text.now c.in-Err.fault (c.in-Err.ensures.refuses 0 [] c.in_ok-reader.ensures.reads)
