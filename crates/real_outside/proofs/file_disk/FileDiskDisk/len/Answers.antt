-- For the proof of `len` (src/file_disk.rt), if it fails: the fault was counted.
use Rattle.real_outside.proofs.Untold.{failed_measure}
use Rattle.real_outside.proofs.file_disk.FileDiskDisk.len.Goals as goal

pub returns-in-Err : goal.returns-in-Err
returns-in-Err g c = failed_measure _ _ c.fault.result c.fault.ensures
