-- For the proof of `refuse_tape` (src/expanding.rt): the cause that was looked up is the one that
-- has the refusal's number.
use Rattle.lathe_calls.proofs.Ended.{ends_just}
use Rattle.tape_calls.proofs.ExpansionTold.{refusal_told}
use Rattle.tape_calls.proofs.expanding.refuse_tape.Goals as goal

pub returns : goal.returns
returns g c =
    ends_just _ _
    (refusal_told c.args.fault c.of_number.result (rw c.number.ensures at c.of_number.ensures.number) (rw c.number.ensures at c.of_number.ensures.found))
    c.tell_refusal.ensures
