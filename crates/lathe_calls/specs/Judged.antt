-- The verdict that is due to three texts. Due says by it what `verify` answers.
use Rattle.std.specs.Prelude.{◌≡◌, ℕ, List, Some, None}
use Rattle.nc_number.specs.declared.fault.Failing.{Failing}
use Rattle.nc_number.specs.declared.fault.Failing.TheVariants.{Fault, NoMemory}
use Rattle.cell_settings.specs.Cell.{Cell}
use Rattle.tape_flow.specs.Forms.{ProgramForm}
use Rattle.nc_verify.specs.declared.refusal.Refusal.{Refusal}
use Rattle.nc_verify.specs.Verdict.{Texts, AreAccepted, IsRefusalOf}
use Rattle.nc_verify.specs.Printed.{IsVerdictText}
use Rattle.lathe_calls.specs.Answers.{Answer, tells, nothing}
use Rattle.lathe_calls.specs.Statuses as exit

-- the verdict with its line: status 0 if the texts are accepted, 1 if they are refused; nothing if
-- memory runs out
pub data IsJudged (texts : Texts) : Answer → Type 0 where
  -- the texts are accepted
  accepted : {cell : Cell} {left right : List ProgramForm} {text : List ℕ} → AreAccepted texts cell left right
      → IsVerdictText None text → IsJudged texts (tells exit.done text)
  -- the texts are refused
  refused : {refusal : Refusal} {text : List ℕ} → IsRefusalOf texts refusal → IsVerdictText (Some refusal) text
      → IsJudged texts (tells exit.refused text)
  -- memory ran out
  unjudged : IsJudged texts nothing

-- the answer to an accepted pair: status 0 and its line
abbrev pub IsAcceptance : Answer → Type 0
IsAcceptance answer = (text : List ℕ) × IsVerdictText None text × (answer ≡ tells exit.done text)

-- the answer to a refusal: status 1 and its line; to out of memory: nothing
abbrev pub IsRefusing : Failing Refusal → Answer → Type 0
IsRefusing (Fault refusal) answer = (text : List ℕ) × IsVerdictText (Some refusal) text × (answer ≡ tells exit.refused text)
IsRefusing NoMemory answer = answer ≡ nothing
