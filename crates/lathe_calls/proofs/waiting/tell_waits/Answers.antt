-- For the proof of `tell_waits` (src/waiting.rt): if memory runs out for the text of the meetings,
-- nothing is written.
use Rattle.std.proofs.Common.{refl}
use Rattle.lathe_calls.proofs.Ended.{ends_unwritten}
use Rattle.lathe_calls.proofs.waiting.tell_waits.Goals as goal

pub returns-then-is_err : goal.returns-then-is_err
returns-then-is_err g c = ends_unwritten _ _ _ refl
