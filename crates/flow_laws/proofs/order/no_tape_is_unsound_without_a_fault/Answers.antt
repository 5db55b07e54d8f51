-- No tape is neither sound nor has a first fault. For the law `no_tape_is_unsound_without_a_fault`
-- (src/order.rt).
use Rattle.flow_laws.proofs.FirstFault.{sound_or_first}
use Rattle.flow_laws.proofs.order.no_tape_is_unsound_without_a_fault.Goals as goal

pub returns : goal.returns
returns c = sound_or_first
