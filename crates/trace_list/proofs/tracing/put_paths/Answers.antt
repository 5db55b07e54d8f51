-- For the proof of `put_paths`: it puts how both paths begin; if the sink fails, a prefix of that
-- (src/tracing.rt).
use Rattle.nc_number.specs.declared.path.Path.TheVariants.{One, Two}
use Rattle.trace_list.specs.Trace.{begin_lines}
use Rattle.trace_list.proofs.InParts.{lines_then, lines_stop}
use Rattle.trace_list.proofs.tracing.put_paths.Goals as goal

pub returns-in-Ok : goal.returns-in-Ok
returns-in-Ok g c = lines_then _ _ _ (begin_lines One c.args.homes.one c.args.machine.now.machine.paths.one.path) (begin_lines Two c.args.homes.two c.args.machine.now.machine.paths.two.path) _ c.in-Ok.ensures c.put_second.ensures

pub returns-in-Err : goal.returns-in-Err
returns-in-Err g c = lines_stop _ _ (begin_lines One c.args.homes.one c.args.machine.now.machine.paths.one.path) (begin_lines Two c.args.homes.two c.args.machine.now.machine.paths.two.path) _ c.in-Err.ensures
