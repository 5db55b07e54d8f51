-- What has come of a table composes: nothing, a step, and one time after another.
-- HeldKept, EndsTold, FlushedShown and the proofs of `ended` and `step_into` (src/table.rt) use it.
use Rattle.std.proofs.Common.{Bool, true, false, ◌≡◌, inl, inr, ⊎_elim, ◌⊎◌, ℕ, ◌≤◌, [], ◌++◌, refl, ◌∙◌, arith, length-append, Option, Some, None}
use Rattle.disk_model.specs.Device.{DiskState, IsCoherent, Rose}
use Rattle.nc_number.specs.declared.path.Path.{Path}
use Rattle.nc_outside.specs.declared.halt.Halt.{Halt}
use Rattle.seat_table.specs.Turning.{Draining}
use Rattle.run_table.specs.declared.answer.TableStep.TheVariants.{DiskFault}
use Rattle.run_table.specs.Kept.{TableView}
use Rattle.run_table.specs.Since.{Since}
use Rattle.run_table.specs.Stepping.{step_by}
use Rattle.run_table.proofs.RecordingsFollow.{follows_more}
use Rattle.run_table.proofs.StepsTaken.{nothing}

-- a table has come of itself, with no record made
pub since_none : {D : Type 0} (state : D → DiskState) (t : TableView D) → ((disk : D) → IsCoherent (state disk)) → Since state t t
since_none state t coherent = record {
  verified = refl;
  made = [];
  recording = (nothing state t.recording coherent).follows;
  budget = omega arith;
  cause = λ is. inl is;
}

-- a fault within a part of a time is one within the whole
rose_later : (a b c d : ℕ) → a ≤ b → c ≤ d → Rose b c → Rose a d
rose_later a b c d first last rose = omega (arith, first, last, rose)

-- if b came of the table a, and c of b, then c came of a
pub since_more : {D : Type 0} (state : D → DiskState) (a b c : TableView D) → Since state a b → Since state b c → Since state a c
since_more state a b c f s = record {
  verified = s.verified ∙ f.verified;
  made = f.made ++ s.made;
  recording = follows_more state f.made s.made a.recording b.recording c.recording f.recording s.recording;
  budget = omega (arith, f.budget, s.budget, length-append f.made s.made);
  cause = λ is. ⊎_elim
      (λ before. ⊎_elim (λ first. inl first)
      (λ rose. inr (rose_later (state a.recording.log.file.disk).faults (state a.recording.log.file.disk).faults (state b.recording.log.file.disk).faults
      (state c.recording.log.file.disk).faults (omega arith) s.recording.later rose)) (f.cause before))
      (λ rose. inr (rose_later (state a.recording.log.file.disk).faults (state b.recording.log.file.disk).faults (state c.recording.log.file.disk).faults
      (state c.recording.log.file.disk).faults f.recording.later (omega arith) rose)) (s.cause is);
}

-- the answer that a step is to give is never a fault of the disk
no_fault : {D : Type 0} (t : TableView D) (path : Path) (why bound : Option Halt) (drain : Draining) → (step_by t path why bound drain).answer ≡ DiskFault → ⊥
no_fault t path (Some why) bound drain is = absurd cc
no_fault t path None (Some why) drain is = absurd cc
no_fault t path None None (Draining.due code) is = absurd cc
no_fault t path None None (Draining.asked code) is = absurd cc
no_fault t path None None Draining.none is = absurd cc
