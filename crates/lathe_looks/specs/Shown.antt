-- What a command answers that shows the run whose journal is on a disk (`moves`, `state`, `zones`),
-- or why there is none.
use Rattle.std.specs.Prelude.{ℕ, List, ◌++◌, codes, decimal, Ok, Err}
use Rattle.disk_model.specs.Device.{DiskState}
use Rattle.nc_restart.specs.declared.fault.RestartFault.{RestartFault}
use Rattle.nc_restart.specs.declared.fault.RestartFault.TheVariants as restart
use Rattle.nc_restart.specs.Pair.{texts_of, IsPairOf}
use Rattle.nc_restart.specs.History.{IsHistory}
use Rattle.nc_restart.specs.Recovered.{FoundRun, Recovers}
use Rattle.nc_verify.specs.declared.verified.Verified.{Verified}
use Rattle.run_records.specs.Entries.{Entry}
use Rattle.lathe_looks.specs.declared.showing.Showing.{Showing}
use Rattle.lathe_looks.specs.declared.showing.Showing.TheVariants.{Moves, State}
use Rattle.lathe_calls.specs.Answers.{Answer, IsJust, tells, nothing}
use Rattle.lathe_calls.specs.Reported.{state_of}
use Rattle.lathe_looks.specs.Standing.{moves_text}
use Rattle.lathe_calls.specs.Statuses as exit

-- The line of output for a journal that is damaged at this byte.
abbrev pub bad_text : ℕ → List ℕ
bad_text offset = codes "bad journal" ++ (codes " at " ++ (decimal offset ++ codes "\n"))

-- The answer if no run is found: the disk failed, there is no run, or the journal is damaged; no
-- text if memory ran out.
abbrev pub unfound_answer : RestartFault → Answer
unfound_answer restart.DiskFault = tells exit.disk_fault (codes "disk fault\n")
unfound_answer restart.NoRun = tells exit.run_or_none (codes "no run\n")
unfound_answer (restart.Cut at) = tells exit.bad_journal (bad_text at)
unfound_answer (restart.BadRecord offset cause) = tells exit.bad_journal (bad_text offset)
unfound_answer restart.NoMemory = nothing

-- The text that is shown of a history: its report, or the state of its machine.
abbrev pub shown_text : Showing → Verified → List Entry → List ℕ
shown_text Moves = moves_text
shown_text State = state_of

-- What is due to a history of a pair of which this is shown: status 0 and that text.
abbrev pub IsShowing : Showing → Verified → List Entry → Answer → Type 0
IsShowing showing pair entries = IsJust (tells exit.done (shown_text showing pair entries))

-- What a command answers that looks for a run on the disk and tells what is due to its history: why
-- none is found, or what is due. It writes nothing to the disk.
pub data IsShown (IsDue : Verified → List Entry → Answer → Type 0) (old new : DiskState) : Answer → Type 0 where
  -- no run is found
  unshown : (fault : RestartFault) → Recovers old new (Err fault) → IsShown IsDue old new (unfound_answer fault)
  -- what is due to the history that is found
  shown : (found : FoundRun) (pair : Verified) {answer : Answer} → IsPairOf (texts_of found.header) pair → IsHistory pair found.entries
      → Recovers old new (Ok found) → IsDue pair found.entries answer → IsShown IsDue old new answer
