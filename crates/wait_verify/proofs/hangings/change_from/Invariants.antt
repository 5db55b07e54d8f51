-- No position so far has these switches, and the rest decides (loop of `change_from`,
-- src/hangings.rt).
use Rattle.std.proofs.Common.{◌≡◌, drop}
use Rattle.wait_verify.specs.Hangings.{change_from}
use Rattle.wait_verify.proofs.hangings.change_from.Given as goal

abbrev pub invariant-loop-other : goal.invariant-loop-other
invariant-loop-other l = change_from l.path l.own l.switches (drop l.other-index l.all) ≡ change_from l.path l.own l.switches l.all
