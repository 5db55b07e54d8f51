-- `verdict_line`: the line of a refusal has the name of the cause of its number, if there is one
-- (src/writing.rt).
use Rattle.nc_verify.proofs.Named.{cause_named}
use Rattle.nc_verify.proofs.writing.verdict_line.Goals as goal

pub returns-in-Some : goal.returns-in-Some
returns-in-Some c =
    rw c.in-Some.is (
      c.of_number.result,
      cause_named c.in-Some.refusal.now.number c.of_number.result c.of_number.ensures.number c.of_number.ensures.found,
      c.refused_line.ensures,
    )
