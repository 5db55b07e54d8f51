-- How far a line goes across (`across_by`, src/angled.rt).
use Rattle.std.proofs.Common.{◌≡◌, ◌*ℤ◌, ◌∙◌, ap, Some, pos, of_z}
use Rattle.std.specs.Int.{w128}
use Rattle.line_words.proofs.Spins.{differs, stored_way, across_is}
use Rattle.line_words.proofs.angled.across_by.Goals as goal

pub returns-else-heading-eq0-clause-across : goal.returns-else-heading-eq0-clause-across
returns-else-heading-eq0-clause-across c =
    let way : c.doubled.result ≡ (pos 2 *ℤ c.args.way) = c.doubled.ensures.doubled ∙ ap (λ k. pos 2 *ℤ k) (stored_way c.args.way c.requires.way) in
    rw (differs c.args.heading.now.cosine (pos 0) (λ e. c.if-heading-eq0.false (ap (of_z w128) e)))
    (ap Some (across_is c.doubled.result c.args.way c.args.heading.now.sine c.args.heading.now.cosine c.product.result c.nearest.result
    way c.doubled.ensures.near c.requires.heading.sine c.requires.heading.cosine
    c.product.ensures.product c.product.ensures.near c.nearest.ensures.near c.nearest.ensures.nearest))
