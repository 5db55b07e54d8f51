-- The lines of a run. src/run.rt reads them. 71 is the letter G.
use Rattle.std.specs.Prelude.{ℕ, List, [], ◌∷◌, ◌++◌, All, Option, Some, None, Result, Ok, Err, if◌then◌else◌}
use Rattle.nc_text.specs.declared.tape.Block.{Block}
use Rattle.plain_form.specs.declared.cause.PlainCause.{PlainCause}
use Rattle.plain_form.specs.declared.cause.PlainCause.TheVariants as cause
use Rattle.nose_words.specs.declared.said.Standing.{Standing}
use Rattle.nose_words.specs.declared.said.NoseLine.{NoseLine}
use Rattle.nose_words.specs.declared.said.BlockSaid.{BlockSaid}
use Rattle.nose_words.specs.declared.run.RunRead.{RunRead}
use Rattle.nose_words.specs.declared.run.RunRead.TheVariants.{Whole, Stops}
use Rattle.nose_words.specs.Said.{block_said, LeadsToPosition}

-- the line that a block says, if it says one
abbrev pub lines_of_said : Option NoseLine → List NoseLine
lines_of_said None = []
lines_of_said (Some line) = line ∷ []

-- that the run which began in this line of the tape has no G40
abbrev pub open_run : ℕ → RunRead
open_run first = Stops (record { line = first; cause = cause.Missing 71 })

-- the run that ends with the line that a block says: it says one
abbrev pub ended : List NoseLine → Option NoseLine → ℕ → RunRead
ended done None first = open_run first
ended done (Some off) first = Whole done off

-- the run with what a block in this line of the tape says, which may be its last
abbrev pub run_on : ℕ → ℕ → List NoseLine → Result BlockSaid PlainCause → (BlockSaid → RunRead) → RunRead
run_on first line done (Err why) next = Stops (record { line = line; cause = why })
run_on first line done (Ok said) next = if said.last then ended done said.line first else next said

-- the lines so far, and those of the blocks from here on, where the run stands; it began in this line
-- of the tape
abbrev pub run_from : ℕ → Standing → List NoseLine → List Block → RunRead
run_from first standing done [] = open_run first
run_from first standing done (block ∷ blocks) =
    run_on first block.line done (block_said block standing)
    (λ said. run_from first said.behind (done ++ lines_of_said said.line) blocks)

-- all lines lead to positions
abbrev pub LeadToPositions : RunRead → Type 0
LeadToPositions (Whole lines off) = All LeadsToPosition lines × LeadsToPosition off
LeadToPositions (Stops fault) = Unit {0}
