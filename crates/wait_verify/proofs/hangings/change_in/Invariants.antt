-- From no position so far does the switch change the list, and the rest decides (loop of
-- `change_in`, src/hangings.rt).
use Rattle.std.proofs.Common.{◌≡◌, drop}
use Rattle.wait_verify.specs.Hangings.{change_in}
use Rattle.wait_verify.proofs.hangings.change_in.Given as goal

abbrev pub invariant-loop-own : goal.invariant-loop-own
invariant-loop-own l = change_in l.path l.switch l.all (drop l.own-index l.all) ≡ change_in l.path l.switch l.all l.all
