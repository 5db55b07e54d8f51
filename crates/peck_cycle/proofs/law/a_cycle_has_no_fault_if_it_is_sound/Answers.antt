-- No fault, and sound (`a_cycle_has_no_fault_if_it_is_sound`, src/law.rt).
use Rattle.peck_cycle.proofs.SoundCycles.{hole_is_sound, groove_is_sound}
use Rattle.peck_cycle.proofs.law.a_cycle_has_no_fault_if_it_is_sound.Goals as goal

pub returns-clause-hole : goal.returns-clause-hole
returns-clause-hole c = hole_is_sound

pub returns-clause-groove : goal.returns-clause-groove
returns-clause-groove c = groove_is_sound
