-- For the proof of `write_at` (src/file_disk.rt): the write ended within a file's greatest length;
-- or it failed, and the fault was counted.
use Rattle.real_outside.proofs.Untold.{failed_write, done_write}
use Rattle.real_outside.proofs.file_disk.FileDiskDisk.write_at.Goals as goal

pub returns-in-Ok : goal.returns-in-Ok
returns-in-Ok g c = done_write _ tt c.args.at c.args.bytes.now c.in-Ok.ensures

pub returns-in-Err : goal.returns-in-Err
returns-in-Err g c = failed_write _ _ c.fault.result c.fault.ensures c.args.at c.args.bytes.now
