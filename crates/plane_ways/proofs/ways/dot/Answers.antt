-- The product of two ways (`dot`, src/ways.rt).
use Rattle.std.proofs.Common.{◌∙◌, arith, refl}
use Rattle.plane_ways.proofs.Stored.{sum_fits, sum_is, product_bound, stored_product}
use Rattle.plane_ways.proofs.ways.dot.Goals as goal

pub overflow_add-result : goal.overflow_add-result
overflow_add-result c =
    let w = c.requires.w in
    let v = c.requires.v in
    let a = product_bound c.args.w.now.across c.args.v.now.across 1000000000000 1000000000000 w.0 v.0 in
    let l = product_bound c.args.w.now.along c.args.v.now.along 1000000000000 1000000000000 w.1 v.1 in
    let across = stored_product c.args.w.now.across c.args.v.now.across c.product.result c.product.ensures (omega (arith, w.0)) (omega (arith, v.0)) in
    let along = stored_product c.args.w.now.along c.args.v.now.along c.product-2.result c.product-2.ensures (omega (arith, w.1)) (omega (arith, v.1)) in
    sum_fits c.product.result c.product-2.result (rw across a) (rw along l)

pub returns : goal.returns
returns c =
    let w = c.requires.w in
    let v = c.requires.v in
    let a = product_bound c.args.w.now.across c.args.v.now.across 1000000000000 1000000000000 w.0 v.0 in
    let l = product_bound c.args.w.now.along c.args.v.now.along 1000000000000 1000000000000 w.1 v.1 in
    let across = stored_product c.args.w.now.across c.args.v.now.across c.product.result c.product.ensures (omega (arith, w.0)) (omega (arith, v.0)) in
    let along = stored_product c.args.w.now.along c.args.v.now.along c.product-2.result c.product-2.ensures (omega (arith, w.1)) (omega (arith, v.1)) in
    sum_is c.product.result c.product-2.result (rw across a) (rw along l) ∙ rw (across, along) refl
