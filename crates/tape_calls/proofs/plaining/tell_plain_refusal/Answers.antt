-- For the proof of `tell_plain_refusal` (src/plaining.rt): if memory ran out, nothing is written.
use Rattle.std.proofs.Common.{refl}
use Rattle.lathe_calls.proofs.Ended.{ends_unwritten}
use Rattle.tape_calls.proofs.plaining.tell_plain_refusal.Goals as goal

pub returns-then-is_err : goal.returns-then-is_err
returns-then-is_err g c = ends_unwritten _ _ _ refl
