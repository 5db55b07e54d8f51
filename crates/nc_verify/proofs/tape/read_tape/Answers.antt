-- `read_tape` feeds the whole text to a reader, and what that answers is the tape of the text or
-- its first fault (src/tape.rt).
use Rattle.std.proofs.Common.{[]}
use Rattle.nc_text.proofs.RefusedAtEnd.{refused_at_end}
use Rattle.nc_verify.proofs.tape.read_tape.Goals as goal

pub returns-in-Ok : goal.returns-in-Ok
returns-in-Ok c =
    c.finish.ensures.exact c.args.skips c.args.text.now (c.in-Ok.ensures.reads c.args.skips [] c.in_ok-reader.ensures.reads)

pub returns-in-Err : goal.returns-in-Err
returns-in-Err c =
    refused_at_end c.args.skips c.args.text.now c.in-Err.fault (c.in-Err.ensures.refuses c.args.skips [] c.in_ok-reader.ensures.reads)
