-- An answer about a verdict is one that is due, from what was put.
-- For the proofs of `judge` and `refuse` (src/judging.rt).
use Rattle.std.proofs.Common.{◌≡◌, ℕ, List, Some, refl, sym, subst}
use Rattle.nc_number.specs.declared.fault.Failing.{Failing}
use Rattle.nc_number.specs.declared.fault.Failing.TheVariants.{Fault, NoMemory}
use Rattle.cell_settings.specs.Cell.{Cell}
use Rattle.tape_flow.specs.Forms.{ProgramForm}
use Rattle.block_order.specs.Answers.{IfFault}
use Rattle.nc_verify.specs.declared.refusal.Refusal.{Refusal}
use Rattle.nc_verify.specs.Printed.{IsVerdictText}
use Rattle.nc_verify.specs.Verdict.{Texts, AreAccepted, IsRefusalOf}
use Rattle.lathe_calls.specs.Answers.{Answer, tells, nothing}
use Rattle.lathe_calls.specs.Judged.{IsJudged, accepted, refused, unjudged, IsAcceptance, IsRefusing}

-- the line of an accepted pair is due to accepted texts
pub judged_accepted : {texts : Texts} {cell : Cell} {left right : List ProgramForm} → AreAccepted texts cell left right
    → (answer : Answer) → IsAcceptance answer → IsJudged texts answer
judged_accepted {texts} are answer is = subst (IsJudged texts) (sym is.2) (accepted are is.1)

-- the line of a refusal, or nothing without memory, is due to texts with that refusal
pub judged_refused : {texts : Texts} (error : Failing Refusal) → IfFault error (IsRefusalOf texts)
    → (answer : Answer) → IsRefusing error answer → IsJudged texts answer
judged_refused {texts} (Fault refusal) of_texts answer is = subst (IsJudged texts) (sym is.2) (refused of_texts is.1)
judged_refused {texts} NoMemory of_texts answer is = subst (IsJudged texts) (sym is) unjudged

-- the line of a refusal answers the error that holds it
pub refusing : (error : Failing Refusal) (refusal : Refusal) {text : List ℕ} → error ≡ Fault refusal → IsVerdictText (Some refusal) text
    → IsRefusing error (tells 1 text)
refusing error refusal {text} is written = subst (λ e. IsRefusing e (tells 1 text)) (sym is) (text, written, refl)

-- nothing answers the error that memory ran out
pub refusing_nothing : (error : Failing Refusal) → error ≡ NoMemory → IsRefusing error nothing
refusing_nothing error is = subst (λ e. IsRefusing e nothing) (sym is) refl
