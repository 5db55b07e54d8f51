-- The last block of a contour is one of the program, and a program has no more blocks than its tape: what
-- the calls in src/cycles.rt and src/doubles.rt require.
use Rattle.std.proofs.Common.{◌≡◌, ℕ, suc, ◌+◌, ◌<◌, ◌≤◌, ◌==◌, Bool, true, false, cond, List, [], ◌∷◌, length, Option, Some, None, IfSome, subst, sym, arith, length-append}
use Rattle.block_order.specs.declared.program.ControlBlock.{ControlBlock}
use Rattle.block_order.specs.declared.program.ControlProgram.{ControlProgram}
use Rattle.block_order.specs.Order.{has_sequence, program_of, blocks_of, blocks}
use Rattle.block_order.specs.Shape.{blocks_in}
use Rattle.open_order.specs.Contours.{last_numbered}

-- a place is below another one if it is below the one before that
later_bound : (found : Option ℕ) (p : ℕ) → IfSome found (λ t. t < p) → IfSome found (λ t. t < suc p)
later_bound None p is = tt
later_bound (Some t) p is = omega (arith, is)

-- the last block of a number, or the one that was found before, is one of the program
last_within : (bs : List ControlBlock) (p n : ℕ) (found : Option ℕ) → IfSome found (λ t. t < p)
    → IfSome (last_numbered found bs p n) (λ t. t < p + length bs)
last_within [] p n found is = subst (λ (m : ℕ). IfSome found (λ t. t < m)) (omega arith) is
last_within (b ∷ bs) p n found is =
    subst (λ (m : ℕ). IfSome (last_numbered found (b ∷ bs) p n) (λ t. t < m)) (omega arith)
    (go (has_sequence n b.sequence) (last_within bs (suc p) n (Some p) (omega arith))
    (last_within bs (suc p) n found (later_bound found p is)))
  where
    go : (v : Bool) → IfSome (last_numbered (Some p) bs (suc p) n) (λ t. t < suc p + length bs)
        → IfSome (last_numbered found bs (suc p) n) (λ t. t < suc p + length bs)
        → IfSome (last_numbered (cond v (Some p) found) bs (suc p) n) (λ t. t < suc p + length bs)
    go true here later = here
    go false here later = later

-- the last block of a number, if there is one, is one of the program
pub last_some : (bs : List ControlBlock) (n : ℕ) (found : Option ℕ) → found ≡ last_numbered None bs 0 n
    → IfSome found (λ t. t < length bs)
last_some bs n found is =
    let all : 0 + length bs ≡ length bs = omega arith in
    subst (λ (o : Option ℕ). IfSome o (λ t. t < length bs)) (sym is)
    (subst (λ (m : ℕ). IfSome (last_numbered None bs 0 n) (λ t. t < m)) all (last_within bs 0 n None tt))

-- no program has more blocks than its tape
pub blocks_few : (tape : List ControlProgram) (n most : ℕ) → length (blocks_in tape) ≤ most → length (blocks tape n) ≤ most
blocks_few [] n most few = omega arith
blocks_few (program ∷ rest) n most few =
    let both : length (blocks_in (program ∷ rest)) ≡ length program.blocks + length (blocks_in rest) =
    length-append program.blocks (blocks_in rest) in
    go (program.number == n) (omega (arith, both, few)) (blocks_few rest n most (omega (arith, both, few)))
  where
    go : (own : Bool) → length program.blocks ≤ most → length (blocks rest n) ≤ most
        → length (blocks_of (cond own (Some program) (program_of rest n))) ≤ most
    go true here later = here
    go false here later = later
