-- For the proof of this law (src/laws.rt): a stop leaves no bad journal, and loses no record that
-- was found.
use Rattle.lathe_top.specs.Kinds.{kind_of}
use Rattle.lathe_top.specs.Stops.{lathe_before, lathe_behind}
use Rattle.lathe_top.proofs.StopsLeave.{none_or_run, goes_on_as}
use Rattle.lathe_top.proofs.laws.a_stop_leaves_one_history.Goals as goal

pub returns-clause-never_bad : goal.returns-clause-never_bad
returns-clause-never_bad g c = λ bytes call is held image left.
    none_or_run c.an_image_of_a_run_is_never_bad.ensures g.D.Disk.state (kind_of call.asked) (lathe_before g.D.Disk.state call)
    (lathe_behind g.D.Disk.state call) bytes is.reads held is.leaves image left

pub returns-clause-kept : goal.returns-clause-kept
returns-clause-kept g c = λ bytes call header found is held image left.
    goes_on_as g.D.Disk.state c.an_image_stands_for_one_run.ensures c.an_image_of_a_run_is_never_bad.ensures header found (kind_of call.asked)
    (lathe_before g.D.Disk.state call) (lathe_behind g.D.Disk.state call) bytes (g.met.D.Disk.coherent call.disk) is.reads held is.leaves image left
