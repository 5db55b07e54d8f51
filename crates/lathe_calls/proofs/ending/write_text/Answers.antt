-- For the proof of `write_text` (src/ending.rt): the text stands whole at the sink with its status,
-- or a prefix of it with the status of what went wrong.
use Rattle.std.proofs.Common.{refl}
use Rattle.lathe_calls.proofs.Ended.{ends_put}
use Rattle.lathe_calls.proofs.ending.write_text.Goals as goal

pub returns : goal.returns
returns g c =
    rw c.status_behind.ensures (ends_put c.args.status c.put.result refl
    (record { ok = c.put.ensures.ok; err = c.put.ensures.err; tells = c.put.ensures.tells; fault = c.put.ensures.fault }))
