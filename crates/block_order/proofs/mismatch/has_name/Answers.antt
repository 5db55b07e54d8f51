-- A loop of the stack has the name exactly if an open loop has it. For the contract of `has_name`
-- (src/mismatch.rt).
use Rattle.std.proofs.Common.{◌==◌, rules, tests, ◌∙◌}
use Rattle.std.proofs.lemmas.Iterator.{YieldsList-from_slice}
use Rattle.std.proofs.lemmas.Iterator.Search.{any_from_yields_List}
use Rattle.block_order.proofs.Seen.{open_loops-name}
use Rattle.block_order.proofs.mismatch.has_name.Goals as goal

pub returns : goal.returns
returns c =
    any_from_yields_List (λ x. x.name == c.args.name) _ _ _ c.any.ensures.ran (YieldsList-from_slice c.args.stack.now cc)
    (λ x b q k. search (rules, tests))
    ∙ open_loops-name c.args.name c.args.stack.now
