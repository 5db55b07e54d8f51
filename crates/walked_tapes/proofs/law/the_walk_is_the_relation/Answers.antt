-- The law is two lemmas of Walking (src/law.rt).
use Rattle.walked_tapes.proofs.Walking.{walk_sound, walk_complete}
use Rattle.walked_tapes.proofs.law.the_walk_is_the_relation.Goals as goal

pub returns-clause-sound : goal.returns-clause-sound
returns-clause-sound c = walk_sound

pub returns-clause-complete : goal.returns-clause-complete
returns-clause-complete c = walk_complete
