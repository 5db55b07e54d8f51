-- For the proof of `refuse_plain` (src/plaining.rt): the cause that was looked up is the one that has
-- the refusal's number.
use Rattle.lathe_calls.proofs.Ended.{ends_just}
use Rattle.tape_calls.proofs.PlainTold.{plain_refusal_told}
use Rattle.tape_calls.proofs.plaining.refuse_plain.Goals as goal

pub returns : goal.returns
returns g c =
    ends_just _ _
    (plain_refusal_told c.args.fault c.of_number.result (rw c.number-number.ensures at c.of_number.ensures.number) (rw c.number-number.ensures at c.of_number.ensures.found))
    c.tell_plain_refusal.ensures
