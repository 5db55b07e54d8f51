-- An image that a run left stands for the first so many records of its history (the law
-- `an_image_of_a_run_is_never_bad`, src/laws.rt).
use Rattle.nc_number.specs.declared.path.Path.TheVariants.{One, Two}
use Rattle.path_state.specs.Opening.{opening_path}
use Rattle.nc_restart.specs.Pair.{tapes_in}
use Rattle.nc_restart.proofs.Prefixes.{front_has}
use Rattle.nc_restart.proofs.laws.an_image_of_a_run_is_never_bad.Goals as goal

pub returns : goal.returns
returns c = λ header history kept image has stands. (
  stands,
  front_has header kept history has (c.histories_are_runs.ensures (tapes_in has.pair)
      (opening_path has.pair.left has.pair.settings One) (opening_path has.pair.right has.pair.settings Two)),
)
