-- The bytes of the stamps so far stand at the front; after them all is as it was (loop of
-- `put_each`, src/entry.rt).
use Rattle.std.proofs.Common.{◌≡◌, ◌*◌, ◌++◌, take, drop}
use Rattle.run_records.specs.Spelling.{stamp_bytes}
use Rattle.run_records.proofs.entry.put_each.Given as goal

abbrev pub invariant-loop-i : goal.invariant-loop-i
invariant-loop-i l = l.into ≡ stamp_bytes (take l.i l.stamps) ++ drop (4 * l.i) l.fn.into
