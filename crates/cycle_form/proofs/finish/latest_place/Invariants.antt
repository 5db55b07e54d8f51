-- The latest form so far and those of the parts ahead give the latest of all (loop of
-- `latest_place`, src/finish.rt).
use Rattle.std.proofs.Common.{◌≡◌, None, drop}
use Rattle.cycle_form.specs.Forms.{latest_from}
use Rattle.cycle_form.proofs.finish.latest_place.Given as goal

abbrev pub invariant-loop-i : goal.invariant-loop-i
invariant-loop-i l = latest_from l.first l.last l.found l.i (drop l.i l.parts) ≡ latest_from l.first l.last None 0 l.parts
