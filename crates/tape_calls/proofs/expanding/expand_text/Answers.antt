-- For the proof of `expand_text` (src/expanding.rt), by its ways: the bytes that are written out,
-- the refusal, or no text if memory ran out.
use Rattle.std.proofs.Common.{subst}
use Rattle.nc_number.specs.declared.fault.Failing.TheVariants.{Fault}
use Rattle.nc_number.specs.Answers.{Fails}
use Rattle.tape_expand.specs.Expansion.{expansion_of}
use Rattle.lathe_calls.proofs.Ended.{ends_by, ends_just, ends_untold}
use Rattle.tape_calls.proofs.ExpansionTold.{expansion_told, expansion_refused}
use Rattle.tape_calls.specs.Expanded.{unexpanded}
use Rattle.tape_calls.proofs.expanding.expand_text.Goals as goal

pub returns-in-Ok : goal.returns-in-Ok
returns-in-Ok g c =
    ends_just _ _ (expansion_told c.args.text.now c.in-Ok.bytes.items c.in-Ok.ensures.exact c.in-Ok.ensures.clear)
    (rw c.deref.ensures.value at c.write_text.ensures)

pub returns-in-Err-Fault : goal.returns-in-Err-Fault
returns-in-Err-Fault g c =
    let fails : Fails (Fault c.in-Err-Fault.fault) (expansion_of c.args.text.now) =
    subst (λ e. Fails e (expansion_of c.args.text.now)) c.in-Err-Fault.field-0-is c.in-Err-Fault.ensures.exact in
    ends_by _ (expansion_refused c.args.text.now c.in-Err-Fault.fault fails) c.refuse_tape.ensures

pub returns-in-Err-NoMemory : goal.returns-in-Err-NoMemory
returns-in-Err-NoMemory g c = ends_untold _ unexpanded
