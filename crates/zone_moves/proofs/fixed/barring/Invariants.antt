-- What bars the stretch among the boxes that are left is what bars it among all (loop of `barring`,
-- src/fixed.rt).
use Rattle.std.proofs.Common.{◌≡◌, drop}
use Rattle.std.specs.List.{find}
use Rattle.zone_moves.specs.Fixed.{is_barred}
use Rattle.zone_moves.proofs.fixed.barring.Given as goal

abbrev pub invariant-loop-fixed : goal.invariant-loop-fixed
invariant-loop-fixed l =
    find (is_barred l.fn.gap l.fn.path l.fn.stretch) (drop l.fixed-index l.boxes) ≡ find (is_barred l.fn.gap l.fn.path l.fn.stretch) l.fn.boxes
