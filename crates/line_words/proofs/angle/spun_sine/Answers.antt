-- The sine of a direction that was turned (`spun_sine`, src/angle.rt).
use Rattle.line_words.proofs.Spins.{stored_product, sine_is}
use Rattle.line_words.proofs.angle.spun_sine.Goals as goal

pub returns-clause-sine : goal.returns-clause-sine
returns-clause-sine c =
    let p = stored_product c.args.at.now.sine c.args.by.now.cosine c.product.result c.product.ensures.product c.requires.at.sine c.requires.by.cosine in
    let q = stored_product c.args.at.now.cosine c.args.by.now.sine c.product-2.result c.product-2.ensures.product c.requires.at.cosine c.requires.by.sine in
    sine_is c.args.at.now.sine c.args.by.now.cosine c.args.at.now.cosine c.args.by.now.sine c.product.result c.product-2.result c.turned_part.result
    c.product.ensures.near c.product-2.ensures.near p q c.turned_part.ensures.near c.turned_part.ensures.part
