-- The cosine of a direction that was turned (`spun_cosine`, src/angle.rt).
use Rattle.line_words.proofs.Spins.{stored_product, cosine_is}
use Rattle.line_words.proofs.angle.spun_cosine.Goals as goal

pub returns-clause-cosine : goal.returns-clause-cosine
returns-clause-cosine c =
    let p = stored_product c.args.at.now.cosine c.args.by.now.cosine c.product.result c.product.ensures.product c.requires.at.cosine c.requires.by.cosine in
    let q = stored_product c.args.at.now.sine c.args.by.now.sine c.product-2.result c.product-2.ensures.product c.requires.at.sine c.requires.by.sine in
    cosine_is c.args.at.now.cosine c.args.by.now.cosine c.args.at.now.sine c.args.by.now.sine c.product.result c.product-2.result c.turned_part.result
    c.product.ensures.near c.product-2.ensures.near p q c.turned_part.ensures.near c.turned_part.ensures.part
