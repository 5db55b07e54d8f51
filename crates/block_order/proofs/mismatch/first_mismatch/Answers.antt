-- The lesser of the first misplaced block and the first unclosed head is the first mismatch. For
-- the contract of `first_mismatch` (src/mismatch.rt).
use Rattle.std.proofs.Common.{◌≡◌, [], ◌∙◌, drop, refl, sym, ap, arith, subst}
use Rattle.std.proofs.lemmas.List.{drop_all}
use Rattle.nc_number.specs.Options.{lesser}
use Rattle.block_order.specs.Order.{or_else}
use Rattle.block_order.specs.Loops.{open_after}
use Rattle.block_order.specs.Misplaced.{open_loops, first_misplaced, earliest, IsFirstMismatch}
use Rattle.block_order.proofs.Seen.{open_loops-none}
use Rattle.block_order.proofs.Mismatched.{mismatch-found, or-else-none}
use Rattle.block_order.proofs.mismatch.first_mismatch.Goals as goal

pub loop-block-init : goal.loop-block-init
loop-block-init c =
    let start : open_loops c.new-stack.result.items ≡ [] = ap open_loops c.new-stack.ensures.items ∙ open_loops-none in
    record {
      counted = refl;
      misplaced = ap (λ ls. first_misplaced 0 ls c.args.blocks.now) (sym start);
      opened = ap (λ ls. open_after 0 ls c.args.blocks.now) (sym start);
    }

pub returns : goal.returns
returns c =
    let bs = c.args.blocks.now in
    let i = c.loop-block.block-index in
    let none : drop i bs ≡ [] = drop_all i bs (omega arith) in
    let first : first_misplaced 0 [] bs ≡ c.loop-block.misplaced =
    c.loop-block.invariant.misplaced
    ∙ ap (λ rest. or_else c.loop-block.misplaced (first_misplaced i (open_loops c.loop-block.stack.items) rest)) none
    ∙ or-else-none c.loop-block.misplaced in
    let last : open_after 0 [] bs ≡ open_loops c.loop-block.stack.items =
    c.loop-block.invariant.opened ∙ ap (open_after i (open_loops c.loop-block.stack.items)) none in
    let result : c.lesser.result ≡ lesser (first_misplaced 0 [] bs) (earliest (open_after 0 [] bs)) =
    c.lesser.ensures
    ∙ ap (lesser c.loop-block.misplaced)
    (c.earliest.ensures ∙ ap (λ ls. earliest (open_loops ls)) c.as_slice-2.ensures.value ∙ ap earliest (sym last))
    ∙ ap (λ a. lesser a (earliest (open_after 0 [] bs))) (sym first) in
    subst (IsFirstMismatch bs) (sym result) (mismatch-found bs)
