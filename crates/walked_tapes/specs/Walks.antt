-- What becomes of the blocks of a program, as a relation: no place is passed over, and nothing is said
-- of the order in which a walk looks at them.
use Rattle.std.specs.Prelude.{◌≡◌, ℕ, ◌+◌, ◌<◌, true, List, [], ◌∷◌, ◌++◌, length, drop, Some, None, Ok, slice_get}
use Rattle.nc_text.specs.declared.tape.Block.{Block}
use Rattle.known_blocks.specs.declared.known.Known.{Known}
use Rattle.plain_form.specs.declared.answer.FormAnswer.TheVariants as answer
use Rattle.plain_form.specs.declared.answer.WrittenLine.{WrittenLine}
use Rattle.plain_blocks.specs.Asking.{ask, scene_of}
use Rattle.plain_blocks.specs.Passing.{own_block}
use Rattle.plain_blocks.specs.Walk.{known_at, pass_lines}
use Rattle.plain_blocks.specs.declared.passing.Passed.{Passed}
use Rattle.plain_blocks.specs.declared.step.Step.{Step}
use Rattle.plain_blocks.specs.declared.step.Step.TheVariants as step
use Rattle.plain_blocks.specs.declared.targets.Stand.{Stand}
use Rattle.plain_blocks.specs.declared.walk.Rules.{Rules}

-- lines that stand in place of these blocks, one after the other, each with its line and its number
abbrev pub in_place : List Stand → List WrittenLine → List Step
in_place (stand ∷ stands) (line ∷ lines) =
    step.Written (record { line = stand.line; sequence = stand.sequence; blocks = line.blocks }) ∷ in_place stands lines
in_place _ _ = []

-- What becomes of the blocks from a place on, if this is known behind those before it. `stands` are the
-- blocks in the order of their program.
pub data IsWalk (rules : Rules) (blocks : List Block) (stands : List Stand) : ℕ → Known → List Step → Type 0 where
  -- there is no further block
  ends : (place : ℕ) (known : Known) → length blocks ≡ place → IsWalk rules blocks stands place known []
  -- the block in the place is one of this control's language, and stays
  stays : (place : ℕ) (known : Known) (block : Block) (passing : Passed) (later : List Step) → slice_get blocks place ≡ Some block
      → own_block rules.dialect (known_at rules stands place known) block ≡ Some passing
      → IsWalk rules blocks stands (place + 1) passing.known later
      → IsWalk rules blocks stands place known (step.Kept ∷ later)
  -- it is none, and the first form that takes it writes lines in place of it and of those behind it
  gives : (place : ℕ) (known behind : Known) (block : Block) (first : WrittenLine) (others : List WrittenLine) (later : List Step)
      → slice_get blocks place ≡ Some block
      → own_block rules.dialect (known_at rules stands place known) block ≡ None
      → ask blocks place (scene_of rules.dialect.system (known_at rules stands place known)) rules.settings ≡ answer.Written (first ∷ others)
      → pass_lines rules stands true place (known_at rules stands place known) (first ∷ others) ≡ Ok behind
      → IsWalk rules blocks stands (place + length (first ∷ others)) behind later
      → IsWalk rules blocks stands place known (in_place (drop place stands) (first ∷ others) ++ later)
