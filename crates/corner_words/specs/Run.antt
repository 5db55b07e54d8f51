-- The lines of a run: up to the first one without a corner. src/run.rt reads them.
use Rattle.std.specs.Prelude.{ℕ, is_none, List, [], ◌∷◌, ◌++◌, Result, Ok, Err, if◌then◌else◌}
use Rattle.nc_number.specs.declared.point.Point.{Point}
use Rattle.nc_text.specs.declared.tape.Block.{Block}
use Rattle.plain_form.specs.declared.cause.PlainCause.TheVariants.{Corner}
use Rattle.plain_form.specs.declared.cause.PlainFault.{PlainFault}
use Rattle.corner_words.specs.declared.said.RunLine.{RunLine}
use Rattle.corner_words.specs.declared.run.RunRead.{RunRead}
use Rattle.corner_words.specs.declared.run.RunRead.TheVariants.{Lines, Stops}
use Rattle.corner_words.specs.Said.{line_said}

-- the run with one line more, which is its last if it has no corner
abbrev pub run_on : List RunLine → Result RunLine PlainFault → (RunLine → RunRead) → RunRead
run_on done (Err fault) next = Stops fault
run_on done (Ok line) next = if is_none line.corner then Lines (done ++ line ∷ []) else next line

-- the lines so far, and those of the blocks from here on; the line before them stands in line `last` of
-- the tape and leads to `from`
abbrev pub run_from : ℕ → Point → List RunLine → List Block → RunRead
run_from last from done [] = Stops (record { line = last; cause = Corner })
run_from last from done (block ∷ blocks) =
    run_on done (line_said from block) (λ line. run_from line.line line.to (done ++ line ∷ []) blocks)
