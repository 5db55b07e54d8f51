-- The codes of the blocks so far, and those that the rest adds, are the codes of the program (loop
-- of src/trusting.rt).
use Rattle.std.proofs.Common.{◌≡◌, drop}
use Rattle.open_order.specs.Basis.{basis, trust_view}
use Rattle.open_order.specs.Trusted.{with_blocks}
use Rattle.open_order.proofs.trusting.add_blocks.Given as goal

abbrev pub invariant-loop-block : goal.invariant-loop-block
invariant-loop-block l =
    with_blocks (basis l.reading) (trust_view l.fn.trust) l.blocks
    ≡ with_blocks (basis l.reading) (trust_view l.trust) (drop l.block-index l.blocks)
