-- How a call ends: what there is to tell, and what came of it at the sink. Each command says its
-- text and status in these words.
use Rattle.std.specs.Prelude.{◌≡◌, ℕ, Ok, Err, Result, List, [], take}
use Rattle.nc_outside.specs.declared.sink.PutFault.{PutFault}
use Rattle.nc_outside.specs.declared.sink.PutFault.TheVariants.{Failed, NoMemory}
use Rattle.nc_outside.specs.Faults.{Rose}
use Rattle.nc_outside.specs.Written.{SinkState, Writes}
use Rattle.lathe_calls.specs.Statuses as exit

-- what there is to tell: a status and its text; or nothing, if memory ran out before the text was
-- known, or, for a run with turrets (lathe_top), a thread was refused
pub data Answer : Type 0 where
  -- this status and text
  tells : (status : ℕ) (text : List ℕ) → Answer
  -- no text, since memory ran out or a thread was refused
  nothing : Answer

-- just this is to be told
abbrev pub IsJust : Answer → Answer → Type 0
IsJust due answer = answer ≡ due

-- no call of the sink failed
abbrev pub NoPutFailed : SinkState → SinkState → Type 0
NoPutFailed old new = new.faults ≡ old.faults

-- How a call ends, by what is due. The text is written whole after what was there, and the status
-- is its own. Or the sink failed after a part of the text, or memory ran out after a part of it. Or
-- memory ran out or a thread was refused before there was a text, and nothing was written. A fault
-- of the sink always gives its own status.
pub data Ends (Due : Answer → Type 0) (old new : SinkState) : ℕ → Type 0 where
  -- the text was written whole
  whole : {status : ℕ} {text : List ℕ} → Due (tells status text) → NoPutFailed old new → Writes old new text → Ends Due old new status
  -- the sink failed after the first n bytes
  cut : {status : ℕ} {text : List ℕ} → Due (tells status text) → Rose old.faults new.faults → (n : ℕ)
      → Writes old new (take n text) → Ends Due old new exit.sink_fault
  -- memory ran out after the first n bytes
  unwritten : {status : ℕ} {text : List ℕ} → Due (tells status text) → NoPutFailed old new → (n : ℕ) → Writes old new (take n text)
      → Ends Due old new exit.no_memory
  -- memory ran out or a thread was refused before there was a text
  untold : Due nothing → NoPutFailed old new → Writes old new [] → Ends Due old new exit.no_memory

-- the status after a text that was put with this result
abbrev pub status_behind : Result (Unit {0}) PutFault → ℕ → ℕ
status_behind (Ok _) status = status
status_behind (Err Failed) status = exit.sink_fault
status_behind (Err NoMemory) status = exit.no_memory
