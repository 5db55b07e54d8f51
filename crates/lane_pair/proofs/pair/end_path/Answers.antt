-- For the proof of `end_path` (src/pair.rt): the drive took all that the worker sent, since it took
-- the end.
use Rattle.std.proofs.Common.{refl, sym, ◌∙◌, subst}
use Rattle.std.specs.Prelude.{IsTrue}
use Rattle.lane_pair.proofs.JobsDone.{path_end}
use Rattle.lane_pair.proofs.pair.end_path.Goals as goal

pub returns : goal.returns
returns g c = λ table path line start w d.
    path_end table path line start _ _ _ _ _ _ (c.close_line.ensures.whole (subst IsTrue (sym (c.close_line.ensures.ended ∙ c.requires.ended)) refl)) w d
