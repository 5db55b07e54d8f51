-- For the proof of `sync` (src/file_disk.rt), if it fails: the fault was counted.
use Rattle.real_outside.proofs.Untold.{failed_sync}
use Rattle.real_outside.proofs.file_disk.FileDiskDisk.sync.Goals as goal

pub returns-in-Err : goal.returns-in-Err
returns-in-Err g c = failed_sync _ _ c.fault.result c.fault.ensures
