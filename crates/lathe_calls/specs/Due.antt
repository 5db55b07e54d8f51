-- What is due to three texts and a question, whoever asks: a caller, or a command of the program
-- over files with these texts.
use Rattle.std.specs.Prelude.{ℕ, min, List, Some}
use Rattle.nc_restart.specs.Pair.{IsPairOf, tapes_in, opening_of}
use Rattle.nc_verify.specs.declared.refusal.Refusal.{Refusal}
use Rattle.nc_verify.specs.declared.verified.Verified.{Verified}
use Rattle.nc_verify.specs.Verdict.{Texts, IsRefusalOf}
use Rattle.nc_verify.specs.Printed.{IsVerdictText}
use Rattle.run_records.specs.Entries.{Entry}
use Rattle.turn_order.specs.InTurn.{IsInTurn}
use Rattle.lathe_calls.specs.Answers.{Answer, tells, nothing}
use Rattle.lathe_calls.specs.Judged.{IsJudged}
use Rattle.lathe_calls.specs.Races.{IsRaceAnswer}
use Rattle.lathe_calls.specs.Reported.{report_of, state_of}
use Rattle.lathe_calls.specs.Traced.{IsTraced, end_of}
use Rattle.lathe_calls.specs.Waited.{AreWaits}
use Rattle.lathe_calls.specs.Statuses as exit
use Rattle.lathe_calls.specs.declared.said.Said.{Said}
use Rattle.lathe_calls.specs.declared.question.Question.{Question}
use Rattle.lathe_calls.specs.declared.question.Question.TheVariants as ask
use Rattle.lathe_calls.specs.Said.{IsSaid}
use Rattle.lathe_calls.specs.Texts.{are_fit}

-- the records of the run of a pair whose paths take turns, path 1 and path 2 one after the other
-- (turn_order): `limit` at most, and no more than the settings allow
abbrev pub AreRecordsInTurn : ℕ → Verified → List Entry → Type 0
AreRecordsInTurn limit pair entries = IsInTurn (tapes_in pair) (opening_of pair) (min limit pair.settings.records) entries

-- the report of the run of a pair whose paths take turns, with the status of how it ended; or
-- nothing if memory runs out
pub data IsReportOf (limit : ℕ) (pair : Verified) : Answer → Type 0 where
  -- the report of the records of that run
  ran : (entries : List Entry) → AreRecordsInTurn limit pair entries → IsReportOf limit pair
      (tells (exit.reason_status (end_of pair entries)) (report_of pair entries (end_of pair entries)))
  -- memory ran out
  unran : IsReportOf limit pair nothing

-- the state of the machine after the run of a pair whose paths take turns; or nothing if memory
-- runs out
pub data IsStateOf (limit : ℕ) (pair : Verified) : Answer → Type 0 where
  -- the state after the records of that run
  stands : (entries : List Entry) → AreRecordsInTurn limit pair entries
      → IsStateOf limit pair (tells exit.done (state_of pair entries))
  -- memory ran out
  unran : IsStateOf limit pair nothing

-- what is due to the pair of accepted texts; status 1 and the line of the refusal if they are
-- refused; nothing if memory runs out
pub data IsOfPair (IsDue : Verified → Answer → Type 0) (texts : Texts) : Answer → Type 0 where
  -- the texts are accepted, as this pair
  accepted : (pair : Verified) {answer : Answer} → IsPairOf texts pair → IsDue pair answer → IsOfPair IsDue texts answer
  -- the texts are refused
  refused : {refusal : Refusal} {text : List ℕ} → IsRefusalOf texts refusal → IsVerdictText (Some refusal) text
      → IsOfPair IsDue texts (tells exit.refused text)
  -- memory ran out for the verdict
  unjudged : IsOfPair IsDue texts nothing

-- what is due to three texts and a question
abbrev pub IsDueTo : Question → Texts → Answer → Type 0
IsDueTo ask.Verify texts = IsJudged texts
IsDueTo (ask.Run limit) texts = IsOfPair (IsReportOf limit) texts
IsDueTo (ask.Trace limit) texts = IsTraced limit texts
IsDueTo (ask.State limit) texts = IsOfPair (IsStateOf limit) texts
IsDueTo (ask.Waits outside) texts = AreWaits outside texts
IsDueTo ask.Races texts = IsOfPair IsRaceAnswer texts

-- what a call says of three texts and a question, and what it leaves in the caller's room
abbrev pub IsAnswerTo : Question → Texts → List ℕ → List ℕ → Said → Type 0
IsAnswerTo question texts before after it = IsSaid (are_fit texts) (λ status text. IsDueTo question texts (tells status text)) before after it
