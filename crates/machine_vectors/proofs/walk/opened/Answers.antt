-- No block of a machine that begins has read anything, and no path of it waits (`opened`,
-- src/walk.rt).
use Rattle.std.proofs.Common.{◌≡◌, sym, subst, refl}
use Rattle.nc_number.specs.declared.path.Path.TheVariants.{One, Two}
use Rattle.path_state.specs.Opening.{opening_path}
use Rattle.two_path.specs.Machine.{MachineView, without_reads}
use Rattle.two_path.specs.Joined.{AreAtTheirWaits}
use Rattle.machine_vectors.proofs.walk.opened.Goals as goal

pub returns-in-Ok-clause-no_reads : goal.returns-in-Ok-clause-no_reads
returns-in-Ok-clause-no_reads c = subst (λ (m : MachineView). without_reads m ≡ m) (sym c.in-Ok.ensures) refl

pub returns-in-Ok-clause-waits : goal.returns-in-Ok-clause-waits
returns-in-Ok-clause-waits c =
    let left = c.args.left.now in
    let right = c.args.right.now in
    let settings = c.args.settings.now in
    subst (λ (m : MachineView). AreAtTheirWaits left.order right.order m) (sym c.in-Ok.ensures)
    (c.a_machine_begins_without_waits.ensures left.order right.order (opening_path left settings One) (opening_path right settings Two))
