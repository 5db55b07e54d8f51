-- For the proof of `expand` (src/expanding.rt): what is due to the text that was read is due to its
-- file; or the file can't be read.
use Rattle.std.proofs.Common.{[], ◌∷◌, subst}
use Rattle.lathe_calls.proofs.Ended.{ends_by, ends_just}
use Rattle.lathe_calls.specs.Answers.{Ends}
use Rattle.lathe_looks.specs.Fetched.{answers}
use Rattle.lathe_looks.proofs.NotHad.{unfetched_due}
use Rattle.tape_calls.specs.Expanded.{IsExpanded}
use Rattle.tape_calls.specs.Texts.{TapeView}
use Rattle.lathe_looks.proofs.expanding.expand.Goals as goal

pub returns-in-Ok : goal.returns-in-Ok
returns-in-Ok g c =
    let state = g.K.Sink.state in
    let told : Ends (IsExpanded c.deref.result.now) (state c.args.out.now) (state c.tell_tape.new.out) c.tell_tape.result
    = subst (λ (t : TapeView). Ends (IsExpanded t.tape) (state c.args.out.now) (state c.tell_tape.new.out) c.tell_tape.result)
    c.of.ensures c.tell_tape.ensures in
    ends_by _ (λ answer is. answers (c.in-Ok.text.items ∷ []) c.in-Ok.ensures.text is) (rw c.deref.ensures.value at told)

pub returns-in-Err : goal.returns-in-Err
returns-in-Err g c = ends_just _ _ (unfetched_due _ _ _ c.in-Err.error c.in-Err.ensures.not_had tt) c.tell_unfetched.ensures
