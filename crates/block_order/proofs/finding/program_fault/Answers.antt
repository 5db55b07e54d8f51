-- The block that is found is the program's first one with a fault. For the contract of
-- `program_fault` (src/finding.rt).
use Rattle.std.proofs.Common.{◌≡◌, ◌<◌, ℕ, List, length, get_or, Some, None, refl, sym, ap, arith, subst}
use Rattle.std.specs.List.{slice_get}
use Rattle.std.proofs.lemmas.Option.{slice_get-get_or}
use Rattle.block_order.specs.declared.control.Control.TheVariants.{Next}
use Rattle.block_order.specs.declared.program.ControlBlock.{ControlBlock}
use Rattle.block_order.specs.Order.{main_number}
use Rattle.block_order.specs.Found.{BlockFault, IsFaultOf}
use Rattle.block_order.proofs.Findable.{blocks-more, main-test, first-block}
use Rattle.block_order.proofs.finding.program_fault.Goals as goal

pub returns-in-Some : goal.returns-in-Some
returns-in-Some c = λ tape t own main.
    let p = c.args.program.now in
    let bs : List ControlBlock = c.as_slice-block-items.result.now in
    let i = c.loop-block.block-index in
    let d : ControlBlock = record { line = 0; sequence = None; control = Next } in
    let b : ControlBlock = get_or bs i d in
    let at : slice_get p.blocks i ≡ Some b =
    subst (λ (xs : List ControlBlock). slice_get xs i ≡ Some b) c.as_slice-block-items.ensures
    (slice_get-get_or bs i d c.loop-block-test.true) in
    let within : c.loop-block.place < length p.blocks =
    omega (arith, c.loop-block.invariant.counted, ap length c.as_slice-block-items.ensures, c.loop-block-test.true) in
    let told = c.block_fault.ensures tape p t own (main-test p.number c.args.main (main_number tape) main) within in
    let fault : BlockFault tape p i b.control c.in-Some.cause =
    subst (λ (k : ℕ). BlockFault tape p k b.control c.in-Some.cause) c.loop-block.invariant.counted
    (subst (IsFaultOf (BlockFault tape p c.loop-block.place b.control)) c.in-Some.is told) in
    (i, b, at, refl, fault, first-block tape p i (c.loop-block.invariant.clear tape t own main))

pub loop-block-preserved : goal.loop-block-preserved
loop-block-preserved c = record {
  counted = omega (arith, c.loop-block.invariant.counted);
  clear = λ tape t own main.
      let p = c.args.program.now in
      let bs : List ControlBlock = c.as_slice-block-items.result.now in
      let i = c.loop-block.block-index in
      let d : ControlBlock = record { line = 0; sequence = None; control = Next } in
      let b : ControlBlock = get_or bs i d in
      let at : slice_get p.blocks i ≡ Some b =
      subst (λ (xs : List ControlBlock). slice_get xs i ≡ Some b) c.as_slice-block-items.ensures
      (slice_get-get_or bs i d c.loop-block-test.true) in
      let within : c.loop-block.place < length p.blocks =
      omega (arith, c.loop-block.invariant.counted, ap length c.as_slice-block-items.ensures, c.loop-block-test.true) in
      let told = c.block_fault.ensures tape p t own (main-test p.number c.args.main (main_number tape) main) within in
      let none = subst (IsFaultOf (BlockFault tape p c.loop-block.place b.control)) c.in_default.is told in
      blocks-more tape p i b at
      (λ cause f. none cause
      (subst (λ (k : ℕ). BlockFault tape p k b.control cause) (sym c.loop-block.invariant.counted) f))
      (c.loop-block.invariant.clear tape t own main);
}
