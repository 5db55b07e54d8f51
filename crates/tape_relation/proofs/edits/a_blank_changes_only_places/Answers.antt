-- A law: a space or a tab in a line, where it may stand, changes nothing but places of words
-- (`a_blank_changes_only_places`, src/edits.rt).
use Rattle.tape_relation.proofs.Blanked.{blank_put, blank_put_last}
use Rattle.tape_relation.proofs.edits.a_blank_changes_only_places.Goals as goal

pub returns : goal.returns
returns c = record { ended = blank_put; last = blank_put_last }
