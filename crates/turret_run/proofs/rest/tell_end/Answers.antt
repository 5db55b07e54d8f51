-- For the proof of `tell_end` (src/rest.rt): a turret that was not told the end of its path is told to
-- rest now.
use Rattle.std.proofs.Common.{◌++◌, ◌∷◌, [], List, ap, ◌∙◌, subst, append-nil}
use Rattle.nc_outside.specs.declared.got.Got.{Got}
use Rattle.nc_outside.specs.declared.got.Got.TheVariants.{Rested}
use Rattle.nc_outside.specs.declared.rest.Rest.TheVariants.{End}
use Rattle.drive_line.specs.Driving.{Serves}
use Rattle.path_worker.specs.declared.worker.Why.{Why}
use Rattle.path_worker.specs.Work.{told_at_end}
use Rattle.turret_run.proofs.rest.tell_end.Goals as goal

pub returns-in-Finished-clause-serves : goal.returns-in-Finished-clause-serves
returns-in-Finished-clause-serves g c = λ told start s.
    subst (λ (w : Why). Serves (told ++ told_at_end w) start c.args.driven.now) c.in-Finished.is s

pub returns-in-Halted-clause-serves : goal.returns-in-Halted-clause-serves
returns-in-Halted-clause-serves g c = λ told start s.
    c.settle.ensures.serves told start
    (subst (λ (l : List Got). Serves l start c.args.driven.now) (append-nil told) (subst (λ (w : Why). Serves (told ++ told_at_end w) start c.args.driven.now) c.in-Halted.is s))
