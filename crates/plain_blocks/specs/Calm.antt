-- Blocks of this control's language, and tapes that are written out in it. src/law.rt cites it.
use Rattle.std.specs.Prelude.{◌≡◌, false, ℕ, List, [], ◌∷◌, map, All, Option, Some, Ok, slice_get}
use Rattle.code_tables.specs.declared.kind.CodeKind.{CodeKind}
use Rattle.nc_text.specs.declared.tape.Block.{Block}
use Rattle.nc_text.specs.declared.tape.Program.{Program}
use Rattle.block_order.specs.declared.control.Control.TheVariants.{Next}
use Rattle.block_words.specs.declared.dialect.Dialect.{Dialect}
use Rattle.block_forms.specs.Forms.{BlockForm, block_or_refusal}
use Rattle.block_order.specs.declared.program.ControlProgram.{ControlProgram}
use Rattle.plain_blocks.specs.Order.{order_block}
use Rattle.plain_blocks.specs.Passing.{has_taper}
use Rattle.plain_blocks.specs.Targets.{stands_of}
use Rattle.plain_blocks.specs.declared.targets.Stand.{Stand}
use Rattle.plain_blocks.specs.declared.step.Replaced.{Replaced}
use Rattle.plain_blocks.specs.declared.step.Step.{Step}
use Rattle.plain_blocks.specs.declared.step.Step.TheVariants.{Kept, Written}

-- the block is one of this control's language, and begins no thread and no cut along a taper, whatever
-- code of motion is in force
abbrev pub IsOwn : Dialect → Block → Type 0
IsOwn dialect block =
    (form : BlockForm) × (block_or_refusal dialect block ≡ Ok form) × ((motion : Option CodeKind) → has_taper dialect motion block.body ≡ false)

-- all blocks of a tape are
abbrev pub AreOwn : Dialect → List Program → Type 0
AreOwn dialect tape = All (λ program. All (IsOwn dialect) program.blocks) tape

-- the block is one of this control's language, and only goes on to the next one
abbrev pub IsCalmBlock : Dialect → Block → Type 0
IsCalmBlock dialect block = (form : BlockForm) × (block_or_refusal dialect block ≡ Ok form) × (form.control ≡ Next)

-- The line of the block in some place of a program gives way: the block only went on to the next one,
-- and so do those that stand in its place, which are of this control's language.
pub record IsCalmLine (dialect : Dialect) (stands : List Stand) (line : Replaced) : Type 0 where
  -- the place of the block in its program
  pub place : ℕ
  -- the block, as far as its order goes
  pub stand : Stand
  pub found : slice_get stands place ≡ Some stand
  -- it is the block of this line
  pub line_is : line.line ≡ stand.line
  -- it only went on
  pub went_on : stand.control ≡ Next
  -- so do those in its place
  pub blocks : All (IsCalmBlock dialect) line.blocks

-- the same of what becomes of a block
abbrev pub IsCalm : Dialect → List Stand → Step → Type 0
IsCalm dialect stands Kept = Unit {0}
IsCalm dialect stands (Written line) = IsCalmLine dialect stands line

-- the same of all blocks of the programs of a tape of this order
abbrev pub AreCalm : Dialect → List ControlProgram → List Program → List (List Step) → Type 0
AreCalm dialect order [] [] = Unit {0}
AreCalm dialect order (program ∷ programs) (steps ∷ all) =
    All (IsCalm dialect (stands_of order (map (order_block dialect) program.blocks))) steps × AreCalm dialect order programs all
AreCalm dialect order _ _ = ⊥

-- every block stays
abbrev pub kept_blocks : List Block → List Step
kept_blocks blocks = map (λ (block : Block). Kept) blocks

-- every block of a tape stays
abbrev pub kept_steps : List Program → List (List Step)
kept_steps tape = map (λ (program : Program). kept_blocks program.blocks) tape
