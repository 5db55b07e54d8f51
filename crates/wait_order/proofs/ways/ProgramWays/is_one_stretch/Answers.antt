-- If the last block lies in the first stretch, no jump leads to another one. A stretch is the run
-- of blocks up to a wait, an end, an M99 without a number, or a call that leads to a wait or an
-- end. For the contract of `is_one_stretch` (src/ways.rt).
use Rattle.std.proofs.Common.{◌≡◌, arith}
use Rattle.std.proofs.lemmas.Bool.Decides.{nat_tests}
use Rattle.wait_order.proofs.Elsewhere.{one_stretch}
use Rattle.wait_order.proofs.ways.ProgramWays.is_one_stretch.Goals as goal

pub returns : goal.returns
returns c loud ways block n within is_so leads =
    let last = c.last_stretch.result in
    let first : last ≡ 0 = grind (arith, nat_tests) in
    one_stretch loud c.args.self.now.blocks.now c.args.self.now.stretches.now block n last ways.stretches
    c.last_stretch.ensures first within leads
