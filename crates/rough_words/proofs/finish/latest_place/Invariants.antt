-- The latest place so far and that of the blocks ahead give the latest of all (loop of `latest_place`,
-- src/finish.rt).
use Rattle.std.proofs.Common.{◌≡◌, None, drop}
use Rattle.rough_words.specs.Finishes.{latest_from}
use Rattle.rough_words.proofs.finish.latest_place.Given as goal

abbrev pub invariant-loop-i : goal.invariant-loop-i
invariant-loop-i l = latest_from l.number l.found l.i (drop l.i l.blocks) ≡ latest_from l.number None 0 l.blocks
