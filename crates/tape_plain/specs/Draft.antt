-- The lines of a text that give way to plain blocks, and how many blocks the tape has with them.
-- src/draft.rt computes it.
use Rattle.std.specs.Prelude.{ℕ, ◌+◌, ◌-◌, ◌^◌, nat_lt, min, List, [], ◌∷◌, length, Result, Ok, Err, if◌then◌else◌}
use Rattle.std.specs.List.{flat_map}
use Rattle.nc_number.specs.declared.limits.TheConstants.{MOST_BLOCKS}
use Rattle.line_edits.specs.declared.edits.Edit.{Edit}
use Rattle.plain_blocks.specs.declared.step.Replaced.{Replaced}
use Rattle.plain_blocks.specs.declared.step.Step.{Step}
use Rattle.plain_blocks.specs.declared.step.Step.TheVariants.{Kept, Written}
use Rattle.tape_plain.specs.BlockText.{blocks_text}
use Rattle.tape_plain.specs.Comments.{comment_at}
use Rattle.tape_plain.specs.declared.fault.PlainTapeFault.{PlainTapeFault}
use Rattle.tape_plain.specs.declared.fault.PlainTapeFault.TheVariants.{TooLarge}

-- the edit of a line: its blocks stand in its place, with its comments
abbrev pub line_edit : List (List ℕ) → Replaced → Edit
line_edit comments line = record {
  line = line.line;
  new = blocks_text line.line line.sequence (comment_at comments line.line) line.blocks;
}

-- the edit of what becomes of a block; none if its line stays
abbrev pub step_edits : List (List ℕ) → Step → List Edit
step_edits comments Kept = []
step_edits comments (Written line) = line_edit comments line ∷ []

-- the edits of what becomes of the blocks of a tape whose lines have these comments
abbrev pub edits_of : List (List ℕ) → List (List Step) → List Edit
edits_of comments all = flat_map (λ steps. flat_map (step_edits comments) steps) all

-- the count with so many blocks more
abbrev pub grown : ℕ → ℕ → ℕ
grown count blocks = min (count + blocks) (2 ^ 64 - 1)

-- the count with the blocks of a line, if there are at most 20,000 so far
abbrev pub line_size : ℕ → Replaced → Result ℕ PlainTapeFault
line_size count line = if nat_lt MOST_BLOCKS count then Err (TooLarge line.line) else Ok count

-- the count of blocks with what becomes of one more
abbrev pub step_size : ℕ → Step → Result ℕ PlainTapeFault
step_size count Kept = Ok (grown count 1)
step_size count (Written line) = line_size (grown count (length line.blocks)) line

-- what the next makes of the count
abbrev pub size_then : Result ℕ PlainTapeFault → (ℕ → Result ℕ PlainTapeFault) → Result ℕ PlainTapeFault
size_then (Ok count) next = next count
size_then (Err fault) next = Err fault

-- the count of blocks with what becomes of those of a program
abbrev pub steps_size : ℕ → List Step → Result ℕ PlainTapeFault
steps_size count [] = Ok count
steps_size count (step ∷ steps) = size_then (step_size count step) (λ more. steps_size more steps)

-- the count of blocks with what becomes of those of a tape, or 94 at the line with whose blocks there
-- are first more than 20,000
abbrev pub size_of : ℕ → List (List Step) → Result ℕ PlainTapeFault
size_of count [] = Ok count
size_of count (steps ∷ all) = size_then (steps_size count steps) (λ more. size_of more all)
