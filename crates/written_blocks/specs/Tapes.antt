-- Whether a tape says the blocks of another that stay, and those that stand in place of the others.
-- src/tapes.rt computes it.
use Rattle.std.specs.Prelude.{ℕ, ◌+◌, Bool, true, false, ◌==◌, List, [], ◌∷◌, length, Option, Some, None, slice_get, if◌then◌else◌}
use Rattle.line_text.specs.declared.body.Body.{Body}
use Rattle.nc_text.specs.declared.tape.Block.{Block}
use Rattle.nc_text.specs.declared.tape.Program.{Program}
use Rattle.plain_blocks.specs.declared.step.Step.{Step}
use Rattle.plain_blocks.specs.declared.step.Step.TheVariants.{Kept, Written}
use Rattle.written_blocks.specs.Saying.{says}

-- the place behind a block that was found, if it has this sequence number and says this
abbrev pub behind_own : Option Block → ℕ → Option ℕ → Body → Option ℕ
behind_own None at sequence body = None
behind_own (Some block) at sequence body = if says block sequence body then Some (at + 1) else None

-- the same of the block in this place
abbrev pub behind_block : List Block → ℕ → Option ℕ → Body → Option ℕ
behind_block again at sequence body = behind_own (slice_get again at) at sequence body

-- what the next makes of a place
abbrev pub from_there : Option ℕ → (ℕ → Option ℕ) → Option ℕ
from_there None next = None
from_there (Some at) next = next at

-- the place behind blocks that say these, of which the first has this sequence number
abbrev pub behind_blocks : List Block → ℕ → Option ℕ → List Block → Option ℕ
behind_blocks again at sequence [] = Some at
behind_blocks again at sequence (block ∷ blocks) =
    from_there (behind_block again at sequence block.body) (λ behind. behind_blocks again behind None blocks)

-- the place behind blocks that say what became of this one
abbrev pub behind_step : List Block → ℕ → Block → Step → Option ℕ
behind_step again at block Kept = behind_block again at block.sequence block.body
behind_step again at block (Written line) = behind_blocks again at line.sequence line.blocks

-- the same of a block that was found
abbrev pub behind_one : List Block → ℕ → Option Block → Step → Option ℕ
behind_one again at None step = None
behind_one again at (Some block) step = behind_step again at block step

abbrev pub behind_found : List Block → ℕ → List Block → ℕ → Step → Option ℕ
behind_found again at blocks place step = behind_one again at (slice_get blocks place) step

-- the place behind blocks that say what became of those of a program from this place on
abbrev pub behind_steps : List Block → ℕ → List Block → ℕ → List Step → Option ℕ
behind_steps again at blocks place [] = Some at
behind_steps again at blocks place (step ∷ steps) =
    from_there (behind_found again at blocks place step) (λ behind. behind_steps again behind blocks (place + 1) steps)

-- the place is that one
abbrev pub is_end : ℕ → Option ℕ → Bool
is_end end None = false
is_end end (Some at) = at == end

-- a program says what became of the blocks of another
abbrev pub is_program : Program → Program → List Step → Bool
is_program again own steps =
    if again.number == own.number then (if length own.blocks == length steps then is_end (length again.blocks) (behind_steps again.blocks 0 own.blocks 0 steps) else false) else false

-- the same of programs that were found
abbrev pub is_one : Option Program → Option Program → List Step → Bool
is_one (Some again) (Some own) steps = is_program again own steps
is_one (Some again) None steps = false
is_one None own steps = false

abbrev pub is_found : List Program → List Program → ℕ → List Step → Bool
is_found again tape place steps = is_one (slice_get again place) (slice_get tape place) steps

-- the programs from this place on say what became of those of the tape
abbrev pub are_programs : List Program → List Program → ℕ → List (List Step) → Bool
are_programs again tape place [] = true
are_programs again tape place (steps ∷ all) =
    if is_found again tape place steps then are_programs again tape (place + 1) all else false

-- The programs of a tape say, one after the other, what became of the blocks of another: those that
-- stay, and those that stand in place of the others.
abbrev pub is_read_as : List Program → List Program → List (List Step) → Bool
is_read_as again tape all =
    if length again == length all then (if length tape == length all then are_programs again tape 0 all else false) else false
