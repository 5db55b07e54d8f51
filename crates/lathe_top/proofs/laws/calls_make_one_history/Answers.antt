-- For the proof of this law (src/laws.rt): over calls that are cut off at any moment, all records
-- are one history.
use Rattle.lathe_top.proofs.StopsLeave.{becomes_one, one_history}
use Rattle.lathe_top.proofs.laws.calls_make_one_history.Goals as goal

pub returns-clause-begun : goal.returns-clause-begun
returns-clause-begun g c = λ bytes stops none are.
    becomes_one g.D.Disk.state g.met.D.Disk.coherent c.an_image_stands_for_one_run.ensures c.an_image_of_a_run_is_never_bad.ensures stops bytes none are

pub returns-clause-resumed : goal.returns-clause-resumed
returns-clause-resumed g c = λ bytes header found stops stands are.
    one_history g.D.Disk.state g.met.D.Disk.coherent c.an_image_stands_for_one_run.ensures c.an_image_of_a_run_is_never_bad.ensures stops bytes header
    found stands are
