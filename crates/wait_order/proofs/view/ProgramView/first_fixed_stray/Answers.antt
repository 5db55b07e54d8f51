-- No block so far may pass a wait without a search for several numbers; after all of them none may.
-- For the contract of `first_fixed_stray` (src/view.rt).
use Rattle.std.proofs.Common.{◌≡◌, Some, None, sym, ap, ◌∙◌, arith}
use Rattle.block_order.specs.declared.control.Control.TheVariants.{Next}
use Rattle.block_order.specs.Order.{control_at}
use Rattle.wait_order.specs.Waiting.{IsFixedStray, IsFixedStrayAt}
use Rattle.block_order.proofs.Opened.{within_control}
use Rattle.wait_order.proofs.Least.{least_none}
use Rattle.wait_order.proofs.Strayed.{none_more}
use Rattle.wait_order.proofs.view.ProgramView.first_fixed_stray.Goals as goal

pub loop-block-preserved : goal.loop-block-preserved
loop-block-preserved c =
    let tape = c.args.self.now.programs.now in
    let known = c.loop-block.invariant in
    record {
      place = omega (arith, known.place);
      none = none_more (IsFixedStray tape c.args.self.now.number) c.args.self.now.ways.blocks.now c.loop-block.block-index
          c.loop-block.place (record { line = 0; sequence = None; control = Next }) known.place c.loop-block-test.true
          (c.if-is_fixed_stray.ensures.1) known.none;
    }

pub returns : goal.returns
returns c =
    let tape = c.args.self.now.programs.now in
    let bs = c.args.self.now.ways.blocks.now in
    least_none {P = IsFixedStrayAt tape c.args.self.now.number} (λ k h.
    let at : control_at bs k ≡ Some h.0 = sym (ap (λ these. control_at these k) c.requires.view.own_blocks) ∙ h.1 in
    let within = within_control bs k h.0 at in
    c.loop-block.invariant.none k h.0 (omega (arith, within)) at h.2)
