-- A jump may take any block of its number, by the lemma of Gathered (src/laws.rt).
use Rattle.open_order.specs.Contours.{contour_fault}
use Rattle.open_order.proofs.Gathered.{together_in}
use Rattle.open_order.proofs.laws.a_jump_may_take_any_block_of_its_number.Goals as goal

pub returns : goal.returns
returns c = λ premises tape order ordered. together_in order (contour_fault order tape) ordered.late
