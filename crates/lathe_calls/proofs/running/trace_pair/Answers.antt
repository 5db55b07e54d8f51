-- For the proof of `trace_pair` (src/running.rt): if memory runs out for the races of the pair,
-- nothing is told.
use Rattle.lathe_calls.specs.Traced.{unran}
use Rattle.lathe_calls.proofs.Ended.{ends_untold}
use Rattle.lathe_calls.proofs.running.trace_pair.Goals as goal

pub returns-in-Err : goal.returns-in-Err
returns-in-Err g c = ends_untold _ unran
