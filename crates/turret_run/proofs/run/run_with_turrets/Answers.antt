-- For the proof of `run_with_turrets` (src/run.rt): no memory, or a run of the table that was made
-- ready.
use Rattle.std.proofs.Common.{refl}
use Rattle.nc_number.specs.Both.{both_of, of_path}
use Rattle.two_path.specs.Machine.{position_of}
use Rattle.turret_run.specs.Served.{place_told}
use Rattle.turret_run.proofs.TurretsGet.{not_called}
use Rattle.turret_run.proofs.TurretsRun.{runs_ready}
use Rattle.turret_run.proofs.run.run_with_turrets.Goals as goal

pub returns-in_default : goal.returns-in_default
returns-in_default g c =
    let before = both_of g.T.Turret.state c.args.turrets in
    record {
      run = rw c.unbegun.ensures (record {
        same = c.make_ready.ensures.same;
        turrets = λ path. not_called (place_told (position_of path c.args.table.machine)) (of_path before path);
        none = refl;
      });
    }

pub returns : goal.returns
returns g c =
    let turret = g.T.Turret.state in
    let ready = c.make_ready.new.table in
    let before = both_of turret c.args.turrets in
    let run = c.run_scoped in
    record {
      run = runs_ready g.D.Disk.state c.args.limit c.args.table ready c.make_ready.ensures.same c.in-Ok.ensures.budget run.result.table before (both_of turret run.result.turrets)
          run.result.missed run.result.end run.ensures.run;
    }
