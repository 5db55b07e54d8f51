-- For the proof of `edits_of_text` (src/editing.rt), if it fails: the first bad line is told, and
-- if memory ran out nothing is.
use Rattle.std.proofs.Common.{subst}
use Rattle.nc_number.specs.declared.fault.Failing.TheVariants.{Fault}
use Rattle.nc_number.specs.Answers.{FailsBy}
use Rattle.edit_texts.specs.Faults.{fault_line}
use Rattle.edit_texts.specs.Edits.{edits_of}
use Rattle.lathe_calls.proofs.Ended.{ends_just, ends_untold}
use Rattle.lathe_looks.specs.Edited.{bad_edits, unread_edits}
use Rattle.lathe_looks.proofs.editing.edits_of_text.Goals as goal

pub returns-in-Err-Fault-clause-told : goal.returns-in-Err-Fault-clause-told
returns-in-Err-Fault-clause-told g c =
    let fails : FailsBy fault_line (Fault c.in-Err-Fault.fault) (edits_of c.args.text.now) =
    subst (λ e. FailsBy fault_line e (edits_of c.args.text.now)) c.in-Err-Fault.field-0-is c.in-Err-Fault.ensures.exact in
    ends_just _ _ (bad_edits fails) c.tell_bad_edit.ensures

pub returns-in-Err-NoMemory-clause-told : goal.returns-in-Err-NoMemory-clause-told
returns-in-Err-NoMemory-clause-told g c = ends_untold _ unread_edits
