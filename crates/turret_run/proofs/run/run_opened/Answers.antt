-- For the proof of `run_opened` (src/run.rt), by its ways: no threads, a failed place, or a run to
-- its end.
use Rattle.std.proofs.Common.{refl, inr}
use Rattle.nc_number.specs.Both.{both_of, of_path}
use Rattle.two_path.specs.Machine.{position_of}
use Rattle.turret_run.specs.Served.{place_told}
use Rattle.turret_run.proofs.TurretsGet.{not_called}
use Rattle.turret_run.proofs.TurretsRun.{place_failed, all_stays}
use Rattle.turret_run.proofs.run.run_opened.Goals as goal

pub returns-in_default : goal.returns-in_default
returns-in_default g c =
    let before = both_of g.T.Turret.state c.args.turrets in
    record {
      run = rw c.unbegun.ensures (record {
        same = all_stays c.args.table;
        turrets = λ path. not_called (place_told (position_of path c.args.table.machine)) (of_path before path);
        none = refl;
      });
    }

pub returns-in-Err : goal.returns-in-Err
returns-in-Err g c =
    let turret = g.T.Turret.state in
    let t = c.args.table in
    record {
      run = rw c.unplaced.ensures (inr (place_failed g.D.Disk.state t.budget t t (all_stays t) refl (c.a_table_opens_itself.ensures t).of c.requires.halt
          (both_of turret c.args.turrets) (both_of turret c.place_both.new.turrets) c.in-Err.path c.in-Err.ensures.err));
    }

pub returns : goal.returns
returns g c = record { run = c.run_crew.ensures.run (both_of g.T.Turret.state c.args.turrets) c.in_default-place_both.ensures.ok }
