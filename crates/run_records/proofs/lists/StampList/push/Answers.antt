-- A list of stamps that gets one more still has few enough for a record (src/lists.rt).
use Rattle.std.proofs.Common.{◌<◌, length, ap, arith}
use Rattle.run_records.proofs.Stamps.{few_push}
use Rattle.run_records.proofs.lists.StampList.push.Goals as goal

pub invariant_of-self : goal.invariant_of-self
invariant_of-self c =
    let room : length c.self.inside.stamps.items < 32 = omega (arith, c.requires, ap length c.self.view_is) in
    rw c.push.ensures.items (few_push c.self.inside.stamps.items c.args.stamp c.self.invariant room c.ranges.stamp.fits)
