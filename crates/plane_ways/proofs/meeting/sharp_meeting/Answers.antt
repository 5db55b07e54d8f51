-- Where two moved lines meet in a notch; no number is too large (`sharp_meeting`, src/meeting.rt).
use Rattle.std.proofs.Common.{◌≤◌, subst, sym, unsigned_abs, arith}
use Rattle.plane_ways.specs.Plane.{IsWithin}
use Rattle.plane_ways.proofs.Directions.{side_within, multiple_within, way_reaches, wider}
use Rattle.plane_ways.proofs.Stored.{dot_bound, stored}
use Rattle.plane_ways.proofs.meeting.sharp_meeting.Goals as goal

pub way-by-requires-clause-from : goal.way-by-requires-clause-from
way-by-requires-clause-from c = wider 2000000000000000000000000 10000000000000000000000000 c.times.result (omega arith)
    (multiple_within c.length.result c.args.d.now c.times.result c.length.ensures.bound c.requires.d.0 c.times.ensures)

pub way-by-requires-clause-to : goal.way-by-requires-clause-to
way-by-requires-clause-to c = wider 2000000000000000000000000 10000000000000000000000000 c.times-2.result (omega arith)
    (multiple_within c.length-2.result c.args.e.now c.times-2.result c.length-2.ensures.bound c.requires.e.0 c.times-2.ensures)

pub returns-clause-within : goal.returns-clause-within
returns-clause-within c =
    let d = multiple_within c.length.result c.args.d.now c.times.result c.length.ensures.bound c.requires.d.0 c.times.ensures in
    let e = multiple_within c.length-2.result c.args.e.now c.times-2.result c.length-2.ensures.bound c.requires.e.0 c.times-2.ensures in
    let sum = way_reaches 2000000000000000000000000 2000000000000000000000000 c.times.result c.times-2.result d e in
    wider 4000000000000000000000000 10000000000000000000000000 c.way-by.result (omega arith) (subst (IsWithin 4000000000000000000000000) (sym c.way-by.ensures) sum)

pub returns-clause-room : goal.returns-clause-room
returns-clause-room c =
    let side = side_within c.args.side c.args.d.now c.turned.result c.requires.d c.turned.ensures in
    let b = dot_bound c.turned.result c.args.e.now 1000000000000 1000000000000 side c.requires.e.0 in
    let near : unsigned_abs c.dot-parts.result ≤ 10000000000000000000000000 = rw c.dot-parts.ensures (omega (arith, b)) in
    rw (c.unsigned_abs.ensures.value, stored c.dot-parts.result near) near
