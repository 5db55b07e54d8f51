-- The switches named so far, and those of the bytes that are left, are those of the text (loop of
-- `named_switches`, src/switches.rt).
use Rattle.std.proofs.Common.{◌≡◌, drop}
use Rattle.wait_verify.specs.Switches.{named_from, named_switches}
use Rattle.wait_verify.proofs.switches.named_switches.Given as goal

abbrev pub invariant-loop-byte : goal.invariant-loop-byte
invariant-loop-byte l = named_from l.spot l.named (drop l.byte-index l.text) ≡ named_switches l.text
