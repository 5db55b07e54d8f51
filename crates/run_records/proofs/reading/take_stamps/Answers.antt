-- `take_stamps` reads one stamp more from the next four bytes at each turn (src/reading.rt).
use Rattle.std.proofs.Common.{◌≤◌, ◌∷◌, [], length, ℕ, get_or, ◌<◌, List, subst, sym, ap, arith, length-append}
use Rattle.run_records.specs.Stamps.{AreStamps}
use Rattle.run_records.proofs.Stamps.{stamp_read, fits_back, are_push}
use Rattle.run_records.proofs.reading.take_stamps.Goals as goal

pub loop-round-preserved : goal.loop-round-preserved
loop-round-preserved c =
    let i = c.loop-round.invariant in
    let long : 4 ≤ length c.loop-round.rest.now = omega (arith, i.left, c.loop-round-test.true) in
    record {
      read = stamp_read c.loop-round.stamps c.push.new.self c.loop-round.rest.now c.split_at.result.0.now c.split_at.result.1.now c.args.bytes.now c.read_u32.result i.read long i.fits c.split_at.ensures.front c.split_at.ensures.back c.read_u32.ensures c.push.ensures;
      count = omega (arith, i.count, ap length c.push.ensures, length-append c.loop-round.stamps (c.read_u32.result ∷ []));
      left = omega (arith, i.left, c.split_at.ensures.back_len, long);
      stamps = subst AreStamps (sym c.push.ensures) (are_push c.loop-round.stamps c.read_u32.result i.stamps c.read_u32.type_inv);
      fits = subst (λ (l : List ℕ). (k : ℕ) → get_or l k 0 < 256) (sym c.split_at.ensures.back) (fits_back c.loop-round.rest.now 4 i.fits);
    }
