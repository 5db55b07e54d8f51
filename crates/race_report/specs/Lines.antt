-- The lines of the blocks that do what is looked for: that name a variable, or that may write it.
-- The place of a block is its number in its program, from 0.
-- For this crate alone: part_lines finds the least of them in each part.
use Rattle.std.specs.Prelude.{ℕ, Bool, true, false, Option, Some, None}
use Rattle.block_forms.specs.declared.block.FlowBlock.{FlowBlock}
use Rattle.tape_flow.specs.declared.flow.Flow.{Flow}
use Rattle.tape_flow.specs.Places.{flow_block}
use Rattle.named_vars.specs.Names.{body_names, body_may_write}
use Rattle.race_report.specs.declared.sought.Sought.{Sought}
use Rattle.race_report.specs.declared.sought.Sought.TheVariants.{Writes, Names}

-- the block does what is looked for: it may write the variable v, or names it
abbrev pub does : Sought → ℕ → FlowBlock → Bool
does Writes v block = body_may_write block.body v
does Names v block = body_names block.body v

-- the line, if the answer is yes
abbrev pub line_if : Bool → ℕ → Option ℕ
line_if true line = Some line
line_if false line = None

-- the line of the block that was found, if it does what is looked for
abbrev pub block_line : Sought → ℕ → Option FlowBlock → Option ℕ
block_line sought v None = None
block_line sought v (Some block) = line_if (does sought v block) block.line

-- the line of the block at a place of a program, if it does what is looked for
abbrev pub sought_line : Flow → Sought → ℕ → ℕ → ℕ → Option ℕ
sought_line flow sought v program place = block_line sought v (flow_block flow.programs program place)
