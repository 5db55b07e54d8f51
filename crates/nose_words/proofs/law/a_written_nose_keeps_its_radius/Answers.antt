-- What is written of a run keeps (`a_written_nose_keeps_its_radius`, src/law.rt).
use Rattle.nose_words.proofs.NoseKeeps.{keeps_off, are_beside, is_cut_of}
use Rattle.nose_words.proofs.law.a_written_nose_keeps_its_radius.Goals as goal

pub returns-clause-off : goal.returns-clause-off
returns-clause-off c = keeps_off

pub returns-clause-beside : goal.returns-clause-beside
returns-clause-beside c = are_beside

pub returns-clause-points : goal.returns-clause-points
returns-clause-points c = is_cut_of
