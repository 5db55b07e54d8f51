-- The square of a number's root is at most the number, and the square of the next one is more (a
-- law of src/laws.rt).
use Rattle.nc_number.proofs.Roots.{root_squares, root_next}
use Rattle.nc_number.proofs.laws.a_root_is_the_greatest.Goals as goal

pub returns-clause-square : goal.returns-clause-square
returns-clause-square c = λ n. root_squares n n

pub returns-clause-next : goal.returns-clause-next
returns-clause-next c = root_next
