-- The four edges, mirrored and shifted as the code stores them in 64 bits, are those of the area in
-- the cell (`Frame::in_cell`, src/frame.rt).
use Rattle.std.proofs.Common.{arith}
use Rattle.std.proofs.lemmas.Int.{ints}
use Rattle.zone_area.specs.Area.{area_in_cell}
use Rattle.zone_area.proofs.Squares.{same_area, edge_stored}
use Rattle.zone_area.proofs.frame.Frame.in_cell.Goals as goal

pub returns-clause-area : goal.returns-clause-area
returns-clause-area c =
    let area = c.args.area.now in
    let frame = c.args.self.now in
    let low_x = c.requires.area.0.0 in
    let low_z = c.requires.area.0.1 in
    let high_x = c.requires.area.1.0 in
    let high_z = c.requires.area.1.1 in
    let shift_x = c.requires.shift.0 in
    let shift_z = c.requires.shift.1 in
    same_area _ (area_in_cell frame area)
    (edge_stored frame.mirror _ area.low.x area.high.x frame.shift.x _ _ _ c.edge.ensures.edge (omega (arith, ints)) (omega (arith, ints)) (omega (arith, ints)) c.edge.ensures.near)
    (edge_stored frame.mirror_z _ area.low.z area.high.z frame.shift.z _ _ _ c.edge-2.ensures.edge (omega (arith, ints)) (omega (arith, ints)) (omega (arith, ints)) c.edge-2.ensures.near)
    (edge_stored frame.mirror _ area.high.x area.low.x frame.shift.x _ _ _ c.edge-3.ensures.edge (omega (arith, ints)) (omega (arith, ints)) (omega (arith, ints)) c.edge-3.ensures.near)
    (edge_stored frame.mirror_z _ area.high.z area.low.z frame.shift.z _ _ _ c.edge-4.ensures.edge (omega (arith, ints)) (omega (arith, ints)) (omega (arith, ints)) c.edge-4.ensures.near)
