-- For the proof of `write_state` (src/state.rt): the text of a machine of the pair is put, or a
-- prefix of it.
use Rattle.move_list.proofs.state.write_state.Goals as goal

pub returns : goal.returns
returns g c = rw (c.left.ensures.same, c.right.ensures.same) at c.put_state.ensures
