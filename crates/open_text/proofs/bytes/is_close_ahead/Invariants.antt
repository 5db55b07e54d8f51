-- The name is not closed so far, and the rest decides (loop of `is_close_ahead`, src/bytes.rt).
use Rattle.std.proofs.Common.{◌≡◌, drop}
use Rattle.open_text.specs.Bytes.{is_close_ahead}
use Rattle.open_text.proofs.bytes.is_close_ahead.Given as goal

abbrev pub invariant-loop-byte : goal.invariant-loop-byte
invariant-loop-byte l = is_close_ahead (drop l.byte-index l.rest) ≡ is_close_ahead l.rest
