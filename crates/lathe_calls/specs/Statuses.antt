-- The statuses of calls and of the program, as `Status` (src/ending.rt) has them. A new one needs
-- its line there, and in include/lathe.h if a call of C can give it. 12 has copies in the program's
-- main file and in page/judge/worker.js besides: they change together.
use Rattle.std.specs.Prelude.{ℕ}
use Rattle.nc_outside.specs.declared.reason.Reason.{Reason}

-- the texts are accepted, both paths have ended, or the text was written
abbrev pub done : ℕ
done = 0

-- a text is refused (a tape, the settings, edits or zones), or a run has too few meetings to be
-- branched there
abbrev pub refused : ℕ
refused = 1

-- the words are no command, or an order of turns names no path
abbrev pub usage : ℕ
usage = 2

-- an alarm stopped both paths
abbrev pub alarm : ℕ
alarm = 3

-- a file can't be read
abbrev pub shelf_fault : ℕ
shelf_fault = 4

-- the output failed, and what it got is cut short
abbrev pub sink_fault : ℕ
sink_fault = 5

-- the disk with the journal failed
abbrev pub disk_fault : ℕ
disk_fault = 6

-- a turret failed
abbrev pub turret_fault : ℕ
turret_fault = 7

-- there is a run on the disk already, or there is none
abbrev pub run_or_none : ℕ
run_or_none = 8

-- the journal is damaged
abbrev pub bad_journal : ℕ
bad_journal = 9

-- as many records were made as the call allows, or the order of turns is over
abbrev pub stopped : ℕ
stopped = 10

-- memory ran out, or a thread was refused
abbrev pub no_memory : ℕ
no_memory = 12

-- a file is missing, or a file or a text of a call is too long
abbrev pub no_file : ℕ
no_file = 13

-- the run has as many records as the settings allow, or would have more with its edits
abbrev pub full : ℕ
full = 14

-- the status of the reason for which a run ended
abbrev pub reason_status : Reason → ℕ
reason_status Reason.Done = done
reason_status (Reason.Alarm which) = alarm
reason_status Reason.Stopped = stopped
reason_status Reason.Full = full
reason_status Reason.DiskFault = disk_fault
reason_status (Reason.TurretFault path) = turret_fault
