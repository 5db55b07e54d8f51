-- A flow's programs and its order list the same programs and blocks, so what is found in the one by
-- an O number and a place is found in the other: for `Flow::block` (src/lending.rt).
use Rattle.std.proofs.Common.{◌≡◌, ℕ, zero, suc, ◌+◌, Bool, true, false, ◌==◌, List, [], ◌∷◌, map, Option, Some, None, slice_get, refl, ap, sym, ◌∙◌, arith, if◌then◌else◌, Bor}
use Rattle.std.specs.Option.{option_map, option_copied}
use Rattle.block_forms.specs.declared.block.FlowBlock.{FlowBlock}
use Rattle.block_forms.specs.Blocks.{block_form}
use Rattle.block_order.specs.declared.program.ControlProgram.{ControlProgram}
use Rattle.block_order.specs.Order.{program_of, blocks_of, blocks, control_of, control_at}
use Rattle.block_order.specs.ProgramPlaces.{place_from, place_of}
use Rattle.tape_flow.specs.declared.program.FlowProgram.{FlowProgram}
use Rattle.tape_flow.specs.Forms.{program_form}
use Rattle.tape_flow.specs.Controls.{control_block, control_program, controls}
use Rattle.tape_flow.specs.Places.{flow_program, flow_blocks, flow_block}

-- the block at a place of a list of blocks is, as one of the order, that of the list so seen
pub block_seen : (blocks : List FlowBlock) (k : ℕ)
    → option_map (λ block. control_block (block_form block)) (slice_get blocks k)
    ≡ slice_get (map control_block (map block_form blocks)) k
block_seen [] k = refl
block_seen (block ∷ blocks) zero = refl
block_seen (block ∷ blocks) (suc k) = block_seen blocks k

-- seeing the one of two programs that a search takes is taking one of the two as they are seen
one_seen : (is : Bool) (program : FlowProgram) (rest : Option FlowProgram)
    → option_map (λ p. control_program (program_form p)) (if is then Some program else rest)
    ≡ (if is then Some (control_program (program_form program))
    else option_map (λ p. control_program (program_form p)) rest)
one_seen true program rest = refl
one_seen false program rest = refl

-- the program that an O number finds in the flow is, as one of the order, what it finds in the
-- order
pub program_seen : (programs : List FlowProgram) (number : ℕ)
    → option_map (λ p. control_program (program_form p)) (flow_program programs number)
    ≡ program_of (controls (map program_form programs)) number
program_seen [] number = refl
program_seen (program ∷ programs) number =
    rw (one_seen (program.number == number) program (flow_program programs number), program_seen programs number) refl

-- the control of a block that a flow has is that of its order
pub stands_in : (programs : List FlowProgram) (number place : ℕ) (block : FlowBlock)
    → flow_block programs number place ≡ Some block
    → control_at (blocks (controls (map program_form programs)) number) place ≡ Some block.control
stands_in programs number place block is =
    rw (sym (program_seen programs number)) (go (flow_program programs number) is)
  where
    go : (found : Option FlowProgram) → slice_get (flow_blocks found) place ≡ Some block
        → control_at (blocks_of (option_map (λ p. control_program (program_form p)) found)) place
        ≡ Some block.control
    go None there = absurd cc
    go (Some program) there =
        ap (λ found. control_of found) (sym (block_seen program.blocks place))
        ∙ ap (λ found. control_of (option_map (λ b. control_block (block_form b)) found)) there

-- what is seen of a lent value is what is seen of the value
pub lent_seen : {A B : Type 0} (view : A → B) (found : Option (Bor A))
    → option_map (λ lent. view lent.now) found ≡ option_map view (option_copied found)
lent_seen view None = refl
lent_seen view (Some lent) = refl

-- a program of the flow stands at the place that the order keeps of its number
record IsThere (programs : List FlowProgram) (from number place : ℕ) : Type 0 where
  -- how many programs of this list stand before it
  behind : ℕ
  -- the list begins at the place `from` of the order
  at : place ≡ from + behind
  -- what the list has there is its program of this number
  is : slice_get programs behind ≡ flow_program programs number

-- a number that has a place in the order has its program there
there : (programs : List FlowProgram) (from number place : ℕ)
    → place_from (controls (map program_form programs)) from number ≡ Some place → IsThere programs from number place
there [] from number place e = absurd cc
there (program ∷ programs) from number place e = go (λ h. there programs (suc from) number place h) (program.number == number) refl
  where
    go : (place_from (controls (map program_form programs)) (suc from) number ≡ Some place → IsThere programs (suc from) number place)
        → (x : Bool) → (program.number == number) ≡ x → IsThere (program ∷ programs) from number place
    go rest true named =
        let both : Some from ≡ Some place = rw named at e in
        let same : from ≡ place = cc in
        record { behind = 0; at = omega arith; is = rw named refl }
    go rest false named =
        let found = rest (rw named at e) in
        record { behind = suc found.behind; at = (let at = found.at in omega arith); is = rw named found.is }

-- the place that the order keeps of an O number is the place of the flow's program of that number
pub program_there : (programs : List FlowProgram) (number place : ℕ)
    → Some place ≡ place_of (controls (map program_form programs)) number → slice_get programs place ≡ flow_program programs number
program_there programs number place e =
    let found = there programs 0 number place (sym e) in
    let at = found.at in
    let same : place ≡ found.behind = omega arith in
    ap (λ k. slice_get programs k) same ∙ found.is

-- an O number that no place of the order has, from `from` on, has no program in this list
not_there : (programs : List FlowProgram) (from number : ℕ)
    → place_from (controls (map program_form programs)) from number ≡ None → flow_program programs number ≡ None
not_there [] from number e = refl
not_there (program ∷ programs) from number e = go (λ h. not_there programs (suc from) number h) (program.number == number) refl
  where
    go : (place_from (controls (map program_form programs)) (suc from) number ≡ None → flow_program programs number ≡ None)
        → (x : Bool) → (program.number == number) ≡ x → flow_program (program ∷ programs) number ≡ None
    go rest true named = absurd (let both : ◌≡◌ {A = Option ℕ} (Some from) None = rw named at e in cc)
    go rest false named = rw named (rest (rw named at e))

-- a number without a place in the order has no program in the flow
pub no_program_there : (programs : List FlowProgram) (number : ℕ)
    → None ≡ place_of (controls (map program_form programs)) number → flow_program programs number ≡ None
no_program_there programs number e = not_there programs 0 number (sym e)

-- the block at a place of the flow, seen without what it says, is that of the order
pub block_in_order : (programs : List FlowProgram) (order : List ControlProgram) (number place : ℕ)
    → order ≡ controls (map program_form programs)
    → option_map (λ block. control_block (block_form block)) (flow_block programs number place) ≡ slice_get (blocks order number) place
block_in_order programs order number place agrees =
    rw agrees (ordered (flow_program programs number) ∙ ap (λ found. slice_get (blocks_of found) place) (program_seen programs number))
  where
    ordered : (found : Option FlowProgram)
        → option_map (λ block. control_block (block_form block)) (slice_get (flow_blocks found) place)
        ≡ slice_get (blocks_of (option_map (λ p. control_program (program_form p)) found)) place
    ordered None = refl
    ordered (Some program) = block_seen program.blocks place
