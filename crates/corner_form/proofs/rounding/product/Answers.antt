-- The product of a height and a length (`product`, src/rounding.rt).
use Rattle.std.proofs.Common.{◌≤◌, arith}
use Rattle.corner_form.proofs.Halves.{product_is, product_bound}
use Rattle.corner_form.proofs.rounding.product.Goals as goal

pub returns-clause-product : goal.returns-clause-product
returns-clause-product c = product_is c.args.z c.args.n c.requires.z c.requires.n

pub returns-clause-bound : goal.returns-clause-bound
returns-clause-bound c =
    let near = product_bound c.args.z c.args.n c.requires.z c.requires.n in
    rw (product_is c.args.z c.args.n c.requires.z c.requires.n) (omega (arith, near))
