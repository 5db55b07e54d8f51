-- The product of two parts fits (`product`, src/angle.rt).
use Rattle.line_words.proofs.Spins.{product_fits, product_is, product_near}
use Rattle.line_words.proofs.angle.product.Goals as goal

pub overflow_mul-result : goal.overflow_mul-result
overflow_mul-result c = product_fits c.args.a c.args.b c.requires.a c.requires.b

pub returns-clause-product : goal.returns-clause-product
returns-clause-product c = product_is c.args.a c.args.b c.requires.a c.requires.b

pub returns-clause-near : goal.returns-clause-near
returns-clause-near c = product_near c.args.a c.args.b c.requires.a c.requires.b
