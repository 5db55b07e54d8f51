-- None of the blocks so far is loud: the rest decides. A block is loud if it is a wait, an end, or
-- a call of a program that is known to come to one. What the loop of `any_is_loud` keeps
-- (src/loud.rt).
use Rattle.std.proofs.Common.{◌≡◌, drop}
use Rattle.block_order.specs.Loud.{has_loud_block}
use Rattle.block_order.specs.Heard.{flag_known}
use Rattle.block_order.proofs.loud.any_is_loud.Given as goal

abbrev pub invariant-loop-block : goal.invariant-loop-block
invariant-loop-block l =
    has_loud_block (flag_known l.numbers l.flags) l.blocks
    ≡ has_loud_block (flag_known l.numbers l.flags) (drop l.block-index l.blocks)
