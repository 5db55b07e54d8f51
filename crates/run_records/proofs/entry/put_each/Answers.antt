-- `put_each` writes one stamp more after the others at each turn, and what lies after them stays
-- (src/entry.rt).
use Rattle.std.proofs.Common.{refl}
use Rattle.run_records.proofs.Stamps.{stamp_put}
use Rattle.run_records.proofs.entry.put_each.Goals as goal

pub loop-i-preserved : goal.loop-i-preserved
loop-i-preserved c = stamp_put c.args.stamps.now c.args.into.now c.loop-i.into _ c.write_u32.new.buf c.loop-i.i c.loop-i-test.true c.requires c.loop-i.auto.into c.loop-i.invariant refl c.write_u32.ensures
