-- The trace that is due to three texts. Due cites it.
use Rattle.std.specs.Prelude.{ℕ, min, List, ◌++◌, Some}
use Rattle.nc_outside.specs.declared.reason.Reason.{Reason}
use Rattle.nc_restart.specs.Pair.{IsPairOf, tapes_in, opening_of}
use Rattle.nc_verify.specs.declared.refusal.Refusal.{Refusal}
use Rattle.nc_verify.specs.declared.verified.Verified.{Verified}
use Rattle.nc_verify.specs.Verdict.{Texts, IsRefusalOf}
use Rattle.nc_verify.specs.Printed.{IsVerdictText}
use Rattle.race_report.specs.declared.race.Race.{Race}
use Rattle.race_report.specs.Texts.{list_text}
use Rattle.run_records.specs.Entries.{Entry}
use Rattle.trace_list.specs.Trace.{trace_text}
use Rattle.turn_order.specs.Ending.{end_told}
use Rattle.turn_order.specs.InTurn.{IsInTurn}
use Rattle.lathe_calls.specs.Answers.{Answer, tells, nothing}
use Rattle.lathe_calls.specs.Races.{AreRaces}
use Rattle.lathe_calls.specs.Statuses as exit

-- the trace of a history of a pair, and after it the races of the pair, as `races` prints them
abbrev pub trace_of : Verified → List Entry → Reason → List Race → List ℕ
trace_of pair entries end races = trace_text (tapes_in pair) (opening_of pair) entries end ++ list_text races

-- how the run of a pair with these records ended: by its machine, full, or stopped
abbrev pub end_of : Verified → List Entry → Reason
end_of pair entries = end_told (tapes_in pair) (opening_of pair) pair.settings.records entries

-- a trace of a pair: that of its run whose paths take turns, of so many records at most and of no
-- more than the settings allow, with all races of the pair; or nothing if memory runs out
pub data IsTraceOf (limit : ℕ) (pair : Verified) : Answer → Type 0 where
  -- the trace of that run with the races of the pair
  ran : (entries : List Entry) (races : List Race) → IsInTurn (tapes_in pair) (opening_of pair) (min limit pair.settings.records) entries
      → AreRaces pair races
      → IsTraceOf limit pair (tells (exit.reason_status (end_of pair entries)) (trace_of pair entries (end_of pair entries) races))
  -- memory ran out
  unran : IsTraceOf limit pair nothing

-- the trace of the accepted pair; status 1 and the line of the refusal if the texts are refused;
-- nothing if memory runs out
pub data IsTraced (limit : ℕ) (texts : Texts) : Answer → Type 0 where
  -- the texts are accepted, as this pair
  traced : (pair : Verified) {answer : Answer} → IsPairOf texts pair → IsTraceOf limit pair answer → IsTraced limit texts answer
  -- the texts are refused
  refused : {refusal : Refusal} {text : List ℕ} → IsRefusalOf texts refusal → IsVerdictText (Some refusal) text
      → IsTraced limit texts (tells exit.refused text)
  -- memory ran out for the verdict
  untraced : IsTraced limit texts nothing
