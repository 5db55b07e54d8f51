-- What blocks say, in any line and at any places of it, and what a tape says that was written out.
use Rattle.std.specs.Prelude.{ℕ, List, [], ◌∷◌, ◌++◌, map, Option, None}
use Rattle.line_text.specs.declared.body.Word.{Word}
use Rattle.line_text.specs.declared.body.Body.{Body}
use Rattle.line_text.specs.declared.body.Body.TheVariants.{Words, Statement}
use Rattle.nc_text.specs.declared.tape.Block.{Block}
use Rattle.nc_text.specs.declared.tape.Program.{Program}
use Rattle.plain_blocks.specs.declared.step.Step.{Step}
use Rattle.plain_blocks.specs.declared.step.Step.TheVariants.{Kept, Written}

-- a word without its places
abbrev pub told_word : Word → Word
told_word word = record { letter = word.letter; start = 0; end = 0; text = word.text }

-- what a block says, without places
abbrev pub told_body : Body → Body
told_body (Words words) = Words (map told_word words)
told_body (Statement text) = Statement text

-- a block with this sequence number that says this, without line and places
abbrev pub told : Option ℕ → Body → Block
told sequence body = record { line = 0; sequence = sequence; body = told_body body }

-- a block without its line and its places
abbrev pub told_block : Block → Block
told_block block = told block.sequence block.body

-- the blocks of a program without their lines and places
abbrev pub told_blocks : List Block → List Block
told_blocks blocks = map told_block blocks

-- blocks that stand in place of a line: its sequence number stands with the first
abbrev pub numbered : Option ℕ → List Block → List Block
numbered sequence [] = []
numbered sequence (block ∷ blocks) = told sequence block.body ∷ numbered None blocks

-- what became of a block: itself, or the blocks that stand in place of its line
abbrev pub written_block : Block → Step → List Block
written_block block Kept = told_block block ∷ []
written_block block (Written line) = numbered line.sequence line.blocks

-- what became of the blocks of a program, one after the other
abbrev pub written_blocks : List Block → List Step → List Block
written_blocks (block ∷ blocks) (step ∷ steps) = written_block block step ++ written_blocks blocks steps
written_blocks _ _ = []

-- a program: its number and what its blocks say
pub record Telling : Type 0 where
  pub number : ℕ
  pub blocks : List Block

-- the programs of a tape
abbrev pub told_programs : List Program → List Telling
told_programs tape = map (λ (program : Program). record { number = program.number; blocks = told_blocks program.blocks }) tape

-- the programs of a tape with what became of their blocks
abbrev pub written_programs : List Program → List (List Step) → List Telling
written_programs (program ∷ programs) (steps ∷ all) =
    record { number = program.number; blocks = written_blocks program.blocks steps } ∷ written_programs programs all
written_programs _ _ = []
