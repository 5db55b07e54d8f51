-- Of the linked writes of shared variables: the jump of a new one leads to an earlier write of its
-- variable, if anywhere (`linked`, src/links.rt).
use Rattle.std.proofs.Common.{subst, sym, Option, ℕ, length}
use Rattle.common_vars.specs.Links.{IsSomeBefore}
use Rattle.common_vars.proofs.links.linked.Goals as goal

pub returns-clause-jump : goal.returns-clause-jump
returns-clause-jump c =
    let P : Option ℕ → Type 0 = IsSomeBefore c.args.nodes.now (length c.args.nodes.now) c.args.write.variable in
    subst P (sym c.to-3.ensures) (c.jump_from.ensures.variable _ (c.jump_from-near.ensures.variable _ c.requires.previous))
