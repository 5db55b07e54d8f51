-- Areas that do not lie apart in X are clear exactly if they lie apart in Z (`is_clear`,
-- src/clear.rt).
use Rattle.std.proofs.Common.{◌≡◌, ◌∙◌, sym, false, arith}
use Rattle.zone_area.specs.Area.{lie_apart}
use Rattle.zone_area.proofs.Squares.{apart_stored}
use Rattle.zone_area.proofs.clear.is_clear.Goals as goal

pub returns-else-lie_apart : goal.returns-else-lie_apart
returns-else-lie_apart c =
    let gap = c.args.gap.now in
    let a = c.args.a.now in
    let b = c.args.b.now in
    let gap_x = c.requires.gap.0 in
    let gap_z = c.requires.gap.1 in
    let a_low_x = c.requires.a.0.0 in
    let a_low_z = c.requires.a.0.1 in
    let a_high_x = c.requires.a.1.0 in
    let a_high_z = c.requires.a.1.1 in
    let b_low_x = c.requires.b.0.0 in
    let b_low_z = c.requires.b.0.1 in
    let b_high_x = c.requires.b.1.0 in
    let b_high_z = c.requires.b.1.1 in
    let x = apart_stored c.lie_apart.result gap.x a.low.x a.high.x b.low.x b.high.x (omega arith) (omega arith) (omega arith) (omega arith) (omega arith) c.lie_apart.ensures in
    let z = apart_stored c.lie_apart-else-lie_apart.result gap.z a.low.z a.high.z b.low.z b.high.z (omega arith) (omega arith) (omega arith) (omega arith) (omega arith) c.lie_apart-else-lie_apart.ensures in
    let no : lie_apart gap.x a.low.x a.high.x b.low.x b.high.x ≡ false = sym x ∙ c.if-lie_apart.false in
    rw no z
