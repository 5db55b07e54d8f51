-- What was read of a tape, as the contracts of src/progress.rt, going_back.rt, step.rt and feed.rt
-- see it. For this crate alone.
use Rattle.std.specs.Prelude.{◌≡◌, Result, Ok, Err}
use Rattle.line_text.specs.declared.refusal.Refusal.{Refusal}
use Rattle.nc_text.specs.declared.progress.Progress.{Progress}
use Rattle.nc_text.specs.Tape.{Before}

-- what the fields of a reader's progress stand for
abbrev pub before_of : Progress → Before
before_of progress = record {
  lines = progress.lines;
  bytes = progress.bytes;
  percent = progress.percent;
  blocks = progress.blocks;
  done = progress.done.items;
  current = progress.current;
}

-- a call that takes a line answers as the definition does: with what was read after it, which is
-- `new`, or with its refusal
abbrev pub Passes : {A : Type 0} → Result A Refusal → Before → Result Before Refusal → Type 0
Passes (Ok x) new read = read ≡ Ok new
Passes (Err refusal) new read = read ≡ Err refusal
