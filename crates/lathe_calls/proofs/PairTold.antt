-- An answer about the pair of texts is one that is due, from what was put.
-- For the proofs of src/running.rt and src/racing.rt.
use Rattle.std.proofs.Common.{◌≡◌, ℕ, List, sym, subst}
use Rattle.nc_outside.specs.declared.reason.Reason.{Reason}
use Rattle.nc_number.specs.declared.fault.Failing.{Failing}
use Rattle.nc_number.specs.declared.fault.Failing.TheVariants.{Fault, NoMemory}
use Rattle.block_order.specs.Answers.{IfFault}
use Rattle.nc_verify.specs.declared.refusal.Refusal.{Refusal}
use Rattle.nc_verify.specs.declared.verified.Verified.{Verified}
use Rattle.nc_verify.specs.Verdict.{Texts, IsRefusalOf}
use Rattle.run_records.specs.Entries.{Entry}
use Rattle.lathe_calls.specs.Answers.{Answer, tells, IsJust}
use Rattle.lathe_calls.specs.Judged.{IsRefusing}
use Rattle.lathe_calls.specs.Reported.{report_of, state_of}
use Rattle.lathe_calls.specs.Statuses as exit
use Rattle.lathe_calls.specs.Statuses.{reason_status}
use Rattle.lathe_calls.specs.Traced.{end_of}
use Rattle.lathe_calls.specs.Due.{AreRecordsInTurn, IsOfPair, IsReportOf, IsStateOf, ran, refused, stands, unjudged}

-- the line of a refusal, or nothing without memory, is due to texts with that refusal
pub refused_texts : {IsDue : Verified → Answer → Type 0} {texts : Texts} (error : Failing Refusal) → IfFault error (IsRefusalOf texts)
    → (answer : Answer) → IsRefusing error answer → IsOfPair IsDue texts answer
refused_texts {IsDue} {texts} (Fault refusal) of_texts answer is = subst (IsOfPair IsDue texts) (sym is.2) (refused of_texts is.1)
refused_texts {IsDue} {texts} NoMemory of_texts answer is = subst (IsOfPair IsDue texts) (sym is) unjudged

-- the report of a run whose paths took turns is due, with the status of how it ended
pub reported : (limit : ℕ) (pair : Verified) (entries : List Entry) (end : Reason) → AreRecordsInTurn limit pair entries
    → end ≡ end_of pair entries → IsReportOf limit pair (tells (reason_status end) (report_of pair entries end))
reported limit pair entries end run is =
    subst (λ e. IsReportOf limit pair (tells (reason_status e) (report_of pair entries e))) (sym is) (ran entries run)

-- the state of the machine after a run whose paths took turns is due
pub state_told : (limit : ℕ) (pair : Verified) (entries : List Entry) → AreRecordsInTurn limit pair entries
    → (answer : Answer) → IsJust (tells exit.done (state_of pair entries)) answer → IsStateOf limit pair answer
state_told limit pair entries run answer is = subst (IsStateOf limit pair) (sym is) (stands entries run)
