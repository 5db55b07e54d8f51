-- Whether I, J and K of all words rise hangs on the words ahead and the last letter. What the loop
-- of `are_in_order` keeps (src/refusals.rt).
use Rattle.std.proofs.Common.{◌≡◌, drop}
use Rattle.block_forms.specs.Refusals.{are_in_order}
use Rattle.block_forms.proofs.InOrder.{in_order_behind}
use Rattle.block_forms.proofs.refusals.are_in_order.Given as goal

abbrev pub invariant-loop-word : goal.invariant-loop-word
invariant-loop-word l = in_order_behind l.before (drop l.word-index l.words) ≡ are_in_order l.words
