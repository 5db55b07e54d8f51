-- For the proof of `accept` (src/judging.rt): the line of an accepted pair is put, with status 0.
use Rattle.std.proofs.Common.{refl}
use Rattle.lathe_calls.proofs.Ended.{ends_put}
use Rattle.lathe_calls.proofs.judging.accept.Goals as goal

pub returns : goal.returns
returns g c =
    rw (c.status_behind.ensures)
    (ends_put 0 c.write_verdict.result (c.write_verdict.ensures.0, c.write_verdict.ensures.1, refl) c.write_verdict.ensures.2)
