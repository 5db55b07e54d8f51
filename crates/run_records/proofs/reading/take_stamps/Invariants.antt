-- The stamps so far spell the bytes so far, and what is left follows them (loop of `take_stamps`,
-- src/reading.rt).
use Rattle.std.proofs.Common.{◌≡◌, ◌<◌, ◌+◌, ◌*◌, ◌++◌, ℕ, length, get_or}
use Rattle.run_records.specs.Spelling.{stamp_bytes}
use Rattle.run_records.specs.Stamps.{AreStamps}
use Rattle.run_records.proofs.reading.take_stamps.Given as goal

abbrev pub invariant-loop-round : goal.invariant-loop-round
invariant-loop-round l = record {
  read : stamp_bytes l.stamps ++ l.rest ≡ l.bytes;
  count : length l.stamps ≡ l._round;
  left : length l.rest + 4 * l._round ≡ 4 * l.count;
  stamps : AreStamps l.stamps;
  fits : (i : ℕ) → get_or l.rest i 0 < 256;
}
