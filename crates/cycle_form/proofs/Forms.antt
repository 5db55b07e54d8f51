-- What the tests of a form say of it: that the contour is one, and that a finish starts above it.
-- For the proofs of src/form.rt and src/finish.rt.
use Rattle.std.proofs.Common.{◌≡◌, ◌≤◌, true, not, ◌&&◌, List, [], ◌∷◌, pos, ◌+ℤ◌, All}
use Rattle.std.specs.Prelude.{int_le}
use Rattle.std.proofs.lemmas.List.Elements.{All-head, All-tail}
use Rattle.nc_number.specs.declared.point.Point.{Point}
use Rattle.nc_number.proofs.Bools.{both}
use Rattle.rough_cycle.specs.Contour.{Descends, last_of}
use Rattle.rough_cycle.specs.Form.{IsWritten}
use Rattle.rough_cycle.specs.Roughing.{Rough, IsForm}
use Rattle.nc_number.proofs.Integers.{le_is}
use Rattle.cycle_form.specs.Forms.{goes_down, descends, is_form}

-- A contour that passes the test of `descends` descends as rough_cycle asks.
falls : (p : Point) (points : List Point) → descends p points ≡ true → Descends p points
falls p [] e = tt
falls p (q ∷ points) e =
    let parts = both (goes_down p q) (descends q points) e in
    let orders = both (int_le p.x q.x && int_le q.z p.z) (not (int_le q.x p.x && int_le p.z q.z)) parts.0 in
    let down = both (int_le p.x q.x) (int_le q.z p.z) orders.0 in
    (le_is p.x q.x down.0, le_is q.z p.z down.1, falls q points parts.1)

-- The last point of a contour has lengths that literals can write.
pub last_near : (p : Point) (points : List Point) → IsWritten p → All IsWritten points → IsWritten (last_of p points)
last_near p [] near all = near
last_near p (q ∷ points) near all = last_near q points (All-head IsWritten q points all) (All-tail IsWritten q points all)

-- A form that passes the test, with a depth above 0 and its first point at the start's Z, is one.
pub form : (r : Rough) → 1 ≤ r.depth → r.first.z ≡ r.start.z → is_form r ≡ true → IsForm r
form r deep at_start e =
    let parts = both (descends r.first r.points) (int_le ((last_of r.first r.points).x +ℤ pos r.across) r.start.x) e in
    record { deep = deep; at_start = at_start; descends = falls r.first r.points parts.0; high = le_is _ _ parts.1 }
