-- The made pair of a number: its texts, and what is told of its run.
-- The tapes are those of tape_maker.
-- What `top` promises is said in it; no other crate takes it.
use Rattle.std.specs.Prelude.{ℕ, Bool, true, false, if◌then◌else◌, List, []}
use Rattle.nc_number.specs.declared.path.Path.TheVariants.{One, Two}
use Rattle.tape_maker.specs.MadeTape.{made_tape}
use Rattle.nc_outside.specs.declared.reason.Reason.{Reason}
use Rattle.move_list.specs.Summary.{summary_text}
use Rattle.nc_verify.specs.declared.verified.Verified.{Verified}
use Rattle.nc_verify.specs.Verdict.{Texts}
use Rattle.run_records.specs.Entries.{Entry}
use Rattle.lathe_calls.specs.Reported.{report_of}

-- both tapes of the number, and settings that say nothing
abbrev pub made_texts : ℕ → Texts
made_texts number = record { left = made_tape One number; right = made_tape Two number; settings = [] }

-- both paths have ended
abbrev pub is_done : Reason → Bool
is_done Reason.Done = true
is_done other = false

-- what is told of a made pair's history: its summary if both paths have ended, and else its report
abbrev pub made_text : ℕ → Verified → List Entry → Reason → List ℕ
made_text number pair entries reason =
    if is_done reason then summary_text number pair.left pair.right pair.settings entries else report_of pair entries reason

-- the most records that a made pair makes in a call: `MADE_LIMIT` of src/making.rt
abbrev pub made_limit : ℕ
made_limit = 100000
