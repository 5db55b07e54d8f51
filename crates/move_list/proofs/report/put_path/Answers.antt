-- For the proof of `put_path` (src/report.rt): the head of a path and its moves are put, in order,
-- or a prefix of them.
use Rattle.nc_verify.proofs.Put.{put_then, put_stops}
use Rattle.move_list.specs.Report.{path_text}
use Rattle.move_list.proofs.report.put_path.Goals as goal

pub returns-in-Ok : goal.returns-in-Ok
unfolding path_text
returns-in-Ok g c = put_then _ _ _ _ _ _ c.in-Ok.ensures c.put_lines.ensures

pub returns-in-Err : goal.returns-in-Err
unfolding path_text
returns-in-Err g c = put_stops _ _ _ _ _ c.in-Err.ensures
