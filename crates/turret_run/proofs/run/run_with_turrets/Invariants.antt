-- For the call of `run_scoped` by `run_with_turrets` (src/run.rt): the opening is the table itself,
-- which was made ready.
use Rattle.std.proofs.Common.{Some}
use Rattle.turret_run.proofs.run.run_with_turrets.Given as goal

abbrev pub ghosts-run_scoped : goal.ghosts-run_scoped
ghosts-run_scoped g a = record { opened = Some a.table }
