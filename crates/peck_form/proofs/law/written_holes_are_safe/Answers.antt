-- Each line has the hole of its block (`written_holes_are_safe`, src/law.rt).
use Rattle.peck_form.proofs.WrittenHoles.{hole_lines}
use Rattle.peck_form.proofs.law.written_holes_are_safe.Goals as goal

pub returns : goal.returns
returns c = hole_lines
