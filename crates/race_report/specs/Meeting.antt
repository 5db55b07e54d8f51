-- Whether a variable can have a race at all: one tape has a block that may write it, and the other
-- one that names it, in whatever parts. If not, no part is looked through.
-- For this crate alone.
use Rattle.std.specs.Prelude.{ℕ, ◌||◌, ◌&&◌, Bool, false, List, [], ◌∷◌}
use Rattle.block_forms.specs.declared.block.FlowBlock.{FlowBlock}
use Rattle.tape_flow.specs.declared.flow.Flow.{Flow}
use Rattle.tape_flow.specs.declared.program.FlowProgram.{FlowProgram}
use Rattle.race_report.specs.declared.sought.Sought.{Sought}
use Rattle.race_report.specs.declared.sought.Sought.TheVariants.{Writes, Names}
use Rattle.race_report.specs.Lines.{does}

-- some block of a program does what is looked for
abbrev pub some_block : Sought → ℕ → List FlowBlock → Bool
some_block sought v [] = false
some_block sought v (block ∷ blocks) = does sought v block || some_block sought v blocks

-- some block of some program does what is looked for
abbrev pub some_program : Sought → ℕ → List FlowProgram → Bool
some_program sought v [] = false
some_program sought v (program ∷ programs) = some_block sought v program.blocks || some_program sought v programs

-- the tape of the one path has a block that may write the variable, and that of the other path one
-- that names it
abbrev pub may_meet : ℕ → Flow → Flow → Bool
may_meet v writer other = some_program Writes v writer.programs && some_program Names v other.programs

-- one of the two paths may write the variable, and the other names it
abbrev pub may_race : ℕ → Flow → Flow → Bool
may_race v left right = may_meet v left right || may_meet v right left
