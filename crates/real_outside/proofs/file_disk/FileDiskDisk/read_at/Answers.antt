-- For the proof of `read_at` (src/file_disk.rt), if it fails: the fault was counted.
use Rattle.real_outside.proofs.Untold.{failed_fetch}
use Rattle.real_outside.proofs.file_disk.FileDiskDisk.read_at.Goals as goal

pub returns-in-Err : goal.returns-in-Err
returns-in-Err g c = failed_fetch _ _ c.fault.result c.fault.ensures c.args.at c.args.into.now c.read_at.new.into
