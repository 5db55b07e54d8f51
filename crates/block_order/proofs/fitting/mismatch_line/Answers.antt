-- The line is that of the program's first mismatch. For the contract of `mismatch_line`
-- (src/fitting.rt).
use Rattle.std.proofs.Common.{List, Some, None, get_or, subst}
use Rattle.block_order.specs.declared.control.Control.TheVariants.{Next}
use Rattle.block_order.specs.declared.program.ControlBlock.{ControlBlock}
use Rattle.block_order.specs.First.{IsMismatchLine}
use Rattle.block_order.specs.Misplaced.{IsFirstMismatch}
use Rattle.block_order.proofs.Located.{no-mismatch, mismatch-line}
use Rattle.block_order.proofs.fitting.mismatch_line.Goals as goal

pub returns-in_default : goal.returns-in_default
returns-in_default c =
    no-mismatch c.args.program.now.blocks c.in_ok-place.field-0
    (subst (λ (bs : List ControlBlock). IsFirstMismatch bs c.in_ok-place.field-0) c.as_slice-blocks.ensures c.in_ok-place.ensures)
    c.in_default.is

pub returns : goal.returns
returns c =
    let xs : List ControlBlock = c.as_slice-blocks.result.now in
    let d : ControlBlock = record { line = 0; sequence = None; control = Next } in
    subst
    (λ (bs : List ControlBlock). IsMismatchLine bs (Some (get_or xs c.in-Some.place d).line))
    c.as_slice-blocks.ensures
    (mismatch-line xs c.in_ok-place.field-0 c.in-Some.place d c.in_ok-place.ensures c.in-Some.is)
