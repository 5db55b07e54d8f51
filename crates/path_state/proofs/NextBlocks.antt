-- Each block of a checked tape has a number for the one behind it, since no program has more blocks
-- than a tape may have: so control may go on from it (src/decision.rt, `PathState::block`).
use Rattle.std.proofs.Common.{◌≡◌, ℕ, ◌≤◌, ◌==◌, Bool, true, false, List, [], ◌∷◌, length, Option, Some, None, IsSome, option_map, slice_get, ap, sym, refl, arith}
use Rattle.std.proofs.lemmas.List.{length-append}
use Rattle.block_order.specs.declared.control.Control.{Control}
use Rattle.block_order.specs.declared.frame.Frame.{Frame}
use Rattle.block_order.specs.declared.program.ControlBlock.{ControlBlock}
use Rattle.block_order.specs.declared.program.ControlProgram.{ControlProgram}
use Rattle.block_order.specs.Order.{blocks, control_of}
use Rattle.block_order.specs.Shape.{IsReadTape, blocks_in}
use Rattle.block_order.specs.Steps.{control_of_place}
use Rattle.block_order.specs.Frames.{MayPass}
use Rattle.block_order.proofs.Opened.{within_control}

-- a program has no more blocks than its tape
few : (tape : List ControlProgram) (n : ℕ) → length (blocks tape n) ≤ length (blocks_in tape)
few [] n = omega arith
few (p ∷ ps) n = go (p.number == n) refl (few ps n)
  where
    go : (test : Bool) → (p.number == n) ≡ test → length (blocks ps n) ≤ length (blocks_in ps) → length (blocks (p ∷ ps) n) ≤ length (blocks_in (p ∷ ps))
    go true is rest = rw is (omega (arith, length-append p.blocks (blocks_in ps)))
    go false is rest = rw is (omega (arith, length-append p.blocks (blocks_in ps)))

-- if the order has a control at the place, there is a number for the block behind it
pub may_pass : (tape : List ControlProgram) → IsReadTape tape → (place : List Frame) (c : Control) → control_of_place tape place ≡ Some c → MayPass place
may_pass tape listed [] c e = absurd cc
may_pass tape listed (f ∷ stack) c e =
    let inside = within_control (blocks tape f.program) f.block c e in
    let most = few tape f.program in
    let total = listed.few in
    omega arith

-- if a block was found at the place, there is a number for the one behind it
pub may_pass_at : {A : Type 0} → (tape : List ControlProgram) → ((place : List Frame) (c : Control) → control_of_place tape place ≡ Some c → MayPass place)
    → (f : Frame) (stack : List Frame) (found : Option A) (block : A → ControlBlock) → option_map block found ≡ slice_get (blocks tape f.program) f.block
    → IsSome found → MayPass (f ∷ stack)
may_pass_at tape next f stack None block e some = absurd cc
may_pass_at tape next f stack (Some b) block e some = next (f ∷ stack) (block b).control (ap control_of (sym e))
