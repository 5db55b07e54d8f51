-- A tape with a program, rising lines and at most 20,000 of them has at most 20,000 blocks, so it
-- may be checked. For the contract of `is_listed` (src/orders.rt).
use Rattle.std.proofs.Common.{◌≡◌, ℕ, ◌<◌, ◌≤◌, List, [], ◌∷◌, length, ap, subst, ◌∙◌, arith, rules, length-append, false, Bool, ◌==◌}
use Rattle.std.proofs.lemmas.Bool.Decides.{nat_tests}
use Rattle.std.proofs.lemmas.List.{length-map}
use Rattle.block_order.specs.declared.program.ControlProgram.{ControlProgram}
use Rattle.nc_number.specs.Rising.{RiseFrom}
use Rattle.block_order.specs.Shape.{IsReadTape, lines_of_program, lines_in, blocks_in}
use Rattle.tape_vectors.proofs.orders.is_listed.Goals as goal

-- A tape has no more blocks than lines of O numbers and blocks.
few_blocks : (tape : List ControlProgram) → length (blocks_in tape) ≤ length (lines_in tape)
few_blocks [] = omega arith
few_blocks (p ∷ ps) =
    omega (
      arith,
      few_blocks ps,
      length-append p.blocks (blocks_in ps),
      length-append (lines_of_program p) (lines_in ps),
      length-map p.blocks (λ b. b.line),
    )

-- A tape with a program, rising lines and at most 20,000 of them is listed.
listed_is : (tape : List ControlProgram) (lines : List ℕ) → lines ≡ lines_in tape → 0 < length tape → length lines ≤ 20000
    → RiseFrom 0 lines → IsReadTape tape
listed_is tape lines e some few rise = record {
  some = some;
  lines = subst (λ l. RiseFrom 0 l) e rise;
  few = omega (arith, few_blocks tape, ap length e);
}

-- If the test for an empty list says no, the list has an entry.
not_empty : (n : ℕ) (b : Bool) → b ≡ (n == 0) → b ≡ false → 0 < n
not_empty n b e f = grind (arith, nat_tests)

pub returns : goal.returns
returns c rising =
    let few : length c.deref.result.now ≤ 20000 = omega arith in
    listed_is c.args.tape.now c.deref.result.now (c.deref.ensures.value ∙ c.in_ok-lines.ensures)
    (not_empty (length c.args.tape.now) c.is_empty.result c.is_empty.ensures c.if-is_empty.false) few
    (c.is_rising-rising.ensures rising)
