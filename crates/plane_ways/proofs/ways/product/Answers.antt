-- The product of two numbers that fit (`product`, src/ways.rt).
use Rattle.plane_ways.proofs.Stored.{product_is}
use Rattle.plane_ways.proofs.ways.product.Goals as goal

pub returns : goal.returns
returns c = product_is c.args.a c.args.b c.requires.a c.requires.b
