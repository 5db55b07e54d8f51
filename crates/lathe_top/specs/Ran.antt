-- What the commands answer that run both paths (`run`, `make`, `resume`). What a session is, and
-- how it ends, is in Session and Turrets.
-- What `top` promises is said in it; no other crate takes it.
use Rattle.std.specs.Prelude.{ℕ, List, Some, codes, Err}
use Rattle.disk_model.specs.Device.{DiskState}
use Rattle.gate_file.specs.declared.fault.GateFault.{GateFault}
use Rattle.gate_file.specs.declared.fault.GateFault.TheVariants as gate
use Rattle.nc_outside.specs.declared.reason.Reason.{Reason}
use Rattle.nc_verify.specs.declared.refusal.Refusal.{Refusal}
use Rattle.nc_verify.specs.declared.verified.Verified.{Verified}
use Rattle.nc_verify.specs.Printed.{IsVerdictText}
use Rattle.nc_verify.specs.Verdict.{Texts, IsRefusalOf}
use Rattle.run_records.specs.Entries.{Entry}
use Rattle.nc_restart.specs.declared.fault.RestartFault.{RestartFault}
use Rattle.nc_restart.specs.Recovered.{Recovers}
use Rattle.lathe_calls.specs.Answers.{Answer, tells, nothing}
use Rattle.lathe_looks.specs.Shown.{unfound_answer}
use Rattle.lathe_calls.specs.Reported.{report_of}
use Rattle.lathe_calls.specs.Statuses as exit
use Rattle.lathe_top.specs.Lathe.{LatheState, AreAtRest}
use Rattle.lathe_calls.specs.Statuses.{reason_status}
use Rattle.lathe_top.specs.Session.{Session, IsSession}
use Rattle.lathe_top.specs.Turrets.{IsEnding, IsUnprepared}
use Rattle.lathe_top.specs.Kept.{Opening, anew, again, IsNewHeader, IsOpened, IsRefusedBeginning, KeepsSession, RestsWhole}

-- a text of a history of a pair, by the reason for which its run ended
abbrev pub TextOf : Type 0
TextOf = Verified → List Entry → Reason → List ℕ

-- What is told of a session: its text, by the reason for which it ended; nothing, if there was no
-- memory for a first record or a thread was refused.
pub data IsReported {D : Type 0} (state : D → DiskState) (opening : Opening) (limit : ℕ) (text_of : TextOf) (s : Session) (old new : LatheState)
    : Answer → Type 0 where
  -- the session ended for this reason
  reported : {reason : Reason} (least : ℕ) → IsEnding limit reason s least old new → KeepsSession state opening s least old.disk new.disk
      → IsReported state opening limit text_of s old new (tells (reason_status reason) (text_of s.pair s.history reason))
  -- the session did not begin its run
  unprepared : (least : ℕ) → IsUnprepared s least old new → KeepsSession state opening s least old.disk new.disk
      → IsReported state opening limit text_of s old new nothing

-- what is told if no journal is begun: the disk failed, or there is a run; nothing if memory runs
-- out. `NoRun` and `Cut` do not come of a beginning.
abbrev pub unbegun_answer : GateFault → Answer
unbegun_answer gate.DiskFault = tells exit.disk_fault (codes "disk fault\n")
unbegun_answer gate.RunThere = tells exit.run_or_none (codes "run there\n")
unbegun_answer gate.NoRun = nothing
unbegun_answer (gate.Cut at) = nothing
unbegun_answer gate.NoMemory = nothing

-- What is answered to run these texts: their refusal; or why no journal of them was begun; or what
-- is told of the session that they made. Only a session calls a turret, and only for these texts a
-- journal is begun, which has version 2.
pub data IsRun {D : Type 0} (state : D → DiskState) (limit : ℕ) (text_of : TextOf) (texts : Texts) (old new : LatheState) : Answer → Type 0 where
  -- the texts are refused
  refused : {refusal : Refusal} {text : List ℕ} → IsRefusalOf texts refusal → IsVerdictText (Some refusal) text
      → RestsWhole old new → IsRun state limit text_of texts old new (tells exit.refused text)
  -- memory ran out for the verdict, or for the texts of a made pair before it
  unjudged : RestsWhole old new → IsRun state limit text_of texts old new nothing
  -- no journal was begun, for this fault
  not_begun : (fault : GateFault) → IsRefusedBeginning texts fault old.disk new.disk → AreAtRest old new
      → IsRun state limit text_of texts old new (unbegun_answer fault)
  -- a journal was begun, and what is told of the session is due
  ran : {answer : Answer} (s : Session) → IsSession s → IsNewHeader texts s.header → IsOpened anew s old.disk
      → IsReported state anew limit text_of s old new answer → IsRun state limit text_of texts old new answer

-- What `resume` answers: why nothing is found; or the report of the session that went on from what
-- was found.
pub data IsResumed {D : Type 0} (state : D → DiskState) (limit : ℕ) (old new : LatheState) : Answer → Type 0 where
  -- no run is found on the disk
  not_found : (fault : RestartFault) → Recovers old.disk new.disk (Err fault) → AreAtRest old new
      → IsResumed state limit old new (unfound_answer fault)
  -- a run is found, and what is told of the session that goes on from it is due
  resumed : {answer : Answer} (s : Session) → IsSession s → IsOpened again s old.disk
      → IsReported state again limit report_of s old new answer → IsResumed state limit old new answer

-- what `run` answers over the texts of its files: the pair is run with a new journal and reported
abbrev pub IsRunAnew : {D : Type 0} → (D → DiskState) → ℕ → LatheState → LatheState → Texts → Answer → Type 0
IsRunAnew state limit old new = λ texts. IsRun state limit report_of texts old new
