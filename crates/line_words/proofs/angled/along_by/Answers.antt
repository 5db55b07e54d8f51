-- How far a line goes along (`along_by`, src/angled.rt).
use Rattle.std.proofs.Common.{◌∙◌, ap, Some, pos, of_z}
use Rattle.std.specs.Int.{w128}
use Rattle.line_words.proofs.Spins.{differs, stored_way, along_is}
use Rattle.line_words.proofs.angled.along_by.Goals as goal

pub returns-else-heading-eq0-clause-along : goal.returns-else-heading-eq0-clause-along
returns-else-heading-eq0-clause-along c =
    rw (differs c.args.heading.now.sine (pos 0) (λ e. c.if-heading-eq0.false (ap (of_z w128) e)))
    (ap Some (along_is c.single.result c.args.way c.doubled_part.result c.args.heading.now.sine c.args.heading.now.cosine c.product.result c.nearest.result
    (c.single.ensures.single ∙ stored_way c.args.way c.requires.way) c.single.ensures.near c.doubled_part.ensures.doubled c.requires.heading.sine c.doubled_part.ensures.near c.requires.heading.cosine
    c.product.ensures.product c.product.ensures.near c.nearest.ensures.near c.nearest.ensures.nearest))
