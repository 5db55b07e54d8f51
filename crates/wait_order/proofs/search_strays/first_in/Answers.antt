-- The first block in another stretch is the answer if it lies within the bounds; else none does. A
-- stretch is the run of blocks up to a wait, an end, an M99 without a number, or a call that leads
-- to a wait or an end. For the contract of `first_in` (src/search_strays.rt).
use Rattle.std.proofs.Common.{arith}
use Rattle.wait_order.proofs.Nearest.{first_inside, none_inside}
use Rattle.wait_order.proofs.search_strays.first_in.Goals as goal
use Rattle.wait_order.proofs.search_strays.first_in.Goals.{else-first-len-via-then-first-len+then-first-high+else-first-reach, else-first-len-via-then-first-len+else-first-high, else-first-len-via-else-first-len}

pub returns-then-first-reach : goal.returns-then-first-reach
returns-then-first-reach c loud searches ways ahead within =
    first_inside loud searches c.args.ways.now.blocks.now c.args.low c.args.high c.args.target c.max-from.result
    c.first_other-first.result c.args.reach
    (c.first_other-first.ensures loud searches c.args.ways.now.blocks.now ahead ways.stretches (omega arith) within)
    (omega arith) (omega arith) (omega arith) (omega arith, omega arith) (λ b l r. omega arith)

pub returns-else-first-len : goal.returns-else-first-len
returns-else-first-len c loud searches ways ahead within =
    none_inside loud searches c.args.ways.now.blocks.now c.args.low c.args.high c.args.target c.max-from.result
    c.first_other-first.result c.args.reach
    (c.first_other-first.ensures loud searches c.args.ways.now.blocks.now ahead ways.stretches (omega arith) within)
    (λ b l r. omega arith)
    (λ b inside least below reached. elim c.else-first-len.branch [
      | else-first-len-via-then-first-len+then-first-high+else-first-reach w ↦ (let past = w.if-first-reach.false in absurd (omega arith))
      | else-first-len-via-then-first-len+else-first-high w ↦ (let past = w.if-first-high.false in absurd (omega arith))
      | else-first-len-via-else-first-len w ↦ (let past = w.if-first-len.false in absurd (omega arith))
    ])
