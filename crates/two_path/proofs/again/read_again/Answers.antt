-- `read_again`: a variable that is due is one that both paths share, and there is room for its
-- value, as the calls require (src/again.rt).
use Rattle.std.proofs.Common.{sym, ◌∙◌}
use Rattle.path_state.specs.Effect.{effect_of}
use Rattle.two_path.proofs.Redone.{asked}
use Rattle.two_path.proofs.Replayed.{needs_shared}
use Rattle.two_path.proofs.again.read_again.Goals as goal

pub at-requires : goal.at-requires
at-requires c =
    needs_shared c.args.me.now c.args.joint.now c.in-Some.variable c.requires.shared
    (asked c.args.lowest c.count.result c.args.stamp c.args.me.now.path c.args.me.now.values
    (effect_of c.args.flow.now c.args.me.now.path c.args.me.now.values) c.in-Some.variable (sym c.variable_due.ensures ∙ c.in-Some.is)
    (c.a_block_asks_for_each_variable_once_at_most.ensures.block c.args.flow.now c.args.me.now.path c.args.me.now.values)).0

pub read-requires : goal.read-requires
read-requires c =
    (asked c.args.lowest c.count.result c.args.stamp c.args.me.now.path c.args.me.now.values
    (effect_of c.args.flow.now c.args.me.now.path c.args.me.now.values) c.in-Some.variable (sym c.variable_due.ensures ∙ c.in-Some.is)
    (c.a_block_asks_for_each_variable_once_at_most.ensures.block c.args.flow.now c.args.me.now.path c.args.me.now.values)).1
