-- The lines so far are those from before, the program's own and those of its blocks so far. What
-- the loop of `push_lines` keeps (src/orders.rt).
use Rattle.std.proofs.Common.{◌≡◌, ◌++◌, ◌∷◌, take, map}
use Rattle.tape_vectors.proofs.orders.push_lines.Given as goal

abbrev pub invariant-loop-block : goal.invariant-loop-block
invariant-loop-block l =
    l.lines.items ≡ l.fn.lines.items ++ l.program.line ∷ map (λ b. b.line) (take l.block-index l.program.blocks)
