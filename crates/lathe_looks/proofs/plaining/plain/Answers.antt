-- For the proof of `plain` (src/plaining.rt): what is due to the texts that were read is due to their
-- files; or a file can't be read.
use Rattle.std.proofs.Common.{subst}
use Rattle.lathe_calls.proofs.Ended.{ends_by, ends_just}
use Rattle.lathe_calls.specs.Answers.{Ends}
use Rattle.lathe_looks.proofs.NotHad.{answered, unfetched_due}
use Rattle.tape_calls.specs.Plained.{IsPlained}
use Rattle.tape_calls.specs.Texts.{TapeView, tape_and_settings}
use Rattle.lathe_looks.proofs.plaining.plain.Goals as goal

pub returns-in-Ok : goal.returns-in-Ok
returns-in-Ok g c =
    let state = g.K.Sink.state in
    let told : Ends (IsPlained (tape_and_settings c.deref.result.now c.deref-in-Ok.result.now)) (state c.args.out.now) (state c.tell_tape.new.out) c.tell_tape.result
    = subst (λ (t : TapeView). Ends (IsPlained t) (state c.args.out.now) (state c.tell_tape.new.out) c.tell_tape.result)
    c.of.ensures c.tell_tape.ensures in
    ends_by _ (λ answer is. answered IsPlained answer c.in-Ok.ensures.texts is)
    (rw (c.deref.ensures.value, c.deref-in-Ok.ensures.value) at told)

pub returns-in-Err : goal.returns-in-Err
returns-in-Err g c = ends_just _ _ (unfetched_due _ _ _ c.in-Err.error c.in-Err.ensures.not_had tt) c.tell_unfetched.ensures
