-- The reading of a macro expression ends: each function of src/reading.rt calls one that stands
-- lower in the grammar, or one with fewer brackets left to open. Each round of `chain_at` has less
-- text left.
use Rattle.std.proofs.Common.{◌≡◌, ℕ, ◌+◌, ◌-◌, ◌*◌}
use Rattle.macro_expr.specs.declared.words.Rank.{Rank}
use Rattle.macro_expr.specs.declared.words.Rank.TheVariants.{Product, Sum}
use Rattle.macro_expr.specs.Tree.{tree_of}
use Rattle.macro_expr.specs.Words.{operator}
use Rattle.macro_expr.specs.Reading.{chain, operand_at, chain_at, expression_inside}
use Rattle.macro_expr.proofs.reading.+reading.Given as goal

-- The measures of the functions: fewer levels, or as many and nearer to the brackets.
abbrev pub decreases-inside : goal.decreases-inside
decreases-inside l = 10 * l.levels

abbrev pub decreases-bracket_at : goal.decreases-bracket_at
decreases-bracket_at l = 10 * l.levels + 1

abbrev pub decreases-variable_at : goal.decreases-variable_at
decreases-variable_at l = 10 * l.levels + 2

abbrev pub decreases-function_at : goal.decreases-function_at
decreases-function_at l = 10 * l.levels + 2

abbrev pub decreases-prim_at : goal.decreases-prim_at
decreases-prim_at l = 10 * l.levels + 3

abbrev pub decreases-signed_at : goal.decreases-signed_at
decreases-signed_at l = 10 * l.levels + 4

-- by how much the measure is higher than for prims: the operands of a product are prims, those of a
-- sum products
abbrev pub above_prims : Rank → ℕ
above_prims Product = 0
above_prims Sum = 3

abbrev pub decreases-operand_at : goal.decreases-operand_at
decreases-operand_at l = 10 * l.levels + 4 + above_prims l.rank

abbrev pub decreases-chain_at : goal.decreases-chain_at
decreases-chain_at l = 10 * l.levels + 5 + above_prims l.rank

abbrev pub decreases-product_at : goal.decreases-product_at
decreases-product_at l = 10 * l.levels + 6

abbrev pub decreases-sum_at : goal.decreases-sum_at
decreases-sum_at l = 10 * l.levels + 9

-- what is left to read, joined to what was read, is the whole
abbrev pub invariant-chain_at-loop-round : goal.invariant-chain_at-loop-round
invariant-chain_at-loop-round l =
    chain (operator l.rank) (operand_at l.rank (expression_inside l.levels)) (l._round-end - l._round) (tree_of l.left) l.rest
    ≡ chain_at l.rank (expression_inside l.levels) (tree_of l.fn.first) l.text
