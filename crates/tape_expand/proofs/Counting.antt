-- The blocks of one program more. For the loop of `count_blocks` (src/expand.rt).
use Rattle.std.proofs.Common.{◌≡◌, ℕ, ◌+◌, ◌<◌, ◌≤◌, List, ◌∷◌, length, drop, get_or, ap, sym, ◌∙◌, arith, length-append}
use Rattle.std.proofs.lemmas.List.{drop_more}
use Rattle.nc_number.specs.declared.limits.TheConstants.{MOST_BLOCKS}
use Rattle.nc_text.specs.declared.tape.Program.{Program}
use Rattle.nc_text.specs.Shape.{blocks_in}

-- the blocks that are left are those of this program and of the later ones
left_is : (tape : List Program) (i : ℕ) (p : Program) → p ≡ get_or tape i p → i < length tape
    → length (blocks_in (drop i tape)) ≡ length p.blocks + length (blocks_in (drop (i + 1) tape))
left_is tape i p is before =
    ap (λ l. length (blocks_in l)) (drop_more tape i p before ∙ ap (λ q. q ∷ drop (i + 1) tape) (sym is)) ∙ length-append p.blocks (blocks_in (drop (i + 1) tape))

-- the blocks so far and those that are left stay all blocks
pub one_more : (tape : List Program) (i count all : ℕ) (p : Program) → p ≡ get_or tape i p → i < length tape
    → count + length (blocks_in (drop i tape)) ≡ all → (count + length p.blocks) + length (blocks_in (drop (i + 1) tape)) ≡ all
one_more tape i count all p is before so_far = let left = left_is tape i p is before in omega (arith, so_far, left)

-- the blocks so far with those of one program more are at most 20,000, if all are
pub fits : (tape : List Program) (i count all : ℕ) (p : Program) → p ≡ get_or tape i p → i < length tape
    → count + length (blocks_in (drop i tape)) ≡ all → all ≤ MOST_BLOCKS → count + length p.blocks ≤ MOST_BLOCKS
fits tape i count all p is before so_far few = let left = left_is tape i p is before in omega (arith, so_far, left, few)
