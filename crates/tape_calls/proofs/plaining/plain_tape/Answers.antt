-- For the proof of `plain_tape` (src/plaining.rt), by its ways: the bytes that are written out, the
-- refusal, or no text if memory ran out.
use Rattle.std.proofs.Common.{subst}
use Rattle.nc_number.specs.declared.fault.Failing.TheVariants.{Fault}
use Rattle.nc_number.specs.Answers.{Fails}
use Rattle.tape_plain.specs.Plain.{plain_text}
use Rattle.lathe_calls.proofs.Ended.{ends_by, ends_just, ends_untold}
use Rattle.tape_calls.proofs.PlainTold.{plain_refused}
use Rattle.tape_calls.specs.Plained.{plained, unplained}
use Rattle.tape_calls.specs.Texts.{texts_of}
use Rattle.tape_calls.proofs.plaining.plain_tape.Goals as goal

pub returns-in-Ok : goal.returns-in-Ok
returns-in-Ok g c = ends_just _ _ (plained c.in-Ok.ensures.exact) (rw c.deref.ensures.value at c.write_text.ensures)

pub returns-in-Err-Fault : goal.returns-in-Err-Fault
returns-in-Err-Fault g c =
    let fails : Fails (Fault c.in-Err-Fault.fault) (plain_text c.args.texts.now.settings.now c.args.texts.now.tape.now) =
    subst (λ e. Fails e (plain_text c.args.texts.now.settings.now c.args.texts.now.tape.now)) c.in-Err-Fault.field-0-is c.in-Err-Fault.ensures.exact in
    ends_by _ (plain_refused (texts_of c.args.texts.now) c.in-Err-Fault.fault fails) c.refuse_plain.ensures

pub returns-in-Err-NoMemory : goal.returns-in-Err-NoMemory
returns-in-Err-NoMemory g c = ends_untold _ unplained
