-- The order of an accepted tape's flow is sound, and all its runs come to one list of labels
-- (src/control_law.rt).
use Rattle.path_state.proofs.ControlledLabels.{accepted_sound, accepted_unforked}
use Rattle.path_state.proofs.control_law.the_flow_of_an_accepted_tape_is_unforked.Goals as goal

pub returns-clause-sound : goal.returns-clause-sound
returns-clause-sound c = accepted_sound

pub returns-clause-unforked : goal.returns-clause-unforked
returns-clause-unforked c = accepted_unforked
