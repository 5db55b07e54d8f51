-- What `block` lends is the flow's block at that place, and its line, sequence number and control
-- are those that the order has there (src/lending.rt).
use Rattle.std.proofs.Common.{ap, ◌∙◌, slice_get}
use Rattle.std.specs.Option.{option_map}
use Rattle.block_forms.specs.Blocks.{block_form}
use Rattle.tape_flow.specs.Controls.{control_block}
use Rattle.tape_flow.specs.Places.{flow_blocks}
use Rattle.tape_flow.proofs.Seen.{block_in_order, lent_seen}
use Rattle.tape_flow.proofs.flow.Flow.block.Goals as goal

pub returns-clause-value : goal.returns-clause-value
returns-clause-value c =
    c.block_of.ensures ∙ ap (λ found. slice_get (flow_blocks found) c.args.block) c.program.ensures

pub returns-clause-ordered : goal.returns-clause-ordered
returns-clause-ordered c =
    let flow = c.args.self.now in
    lent_seen (λ b. control_block (block_form b)) c.block_of.result
    ∙ ap (λ found. option_map (λ b. control_block (block_form b)) found)
    (c.block_of.ensures ∙ ap (λ found. slice_get (flow_blocks found) c.args.block) c.program.ensures)
    ∙ block_in_order flow.programs flow.order c.args.program c.args.block flow.agrees
