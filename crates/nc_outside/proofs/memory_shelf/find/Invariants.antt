-- What the files ahead hold under the name is what all files of the shelf in memory hold under it
-- (loop of `find`, src/memory_shelf.rt).
use Rattle.std.proofs.Common.{◌≡◌, drop}
use Rattle.nc_outside.specs.Files.{file_named}
use Rattle.nc_outside.specs.Kept.{files_of}
use Rattle.nc_outside.proofs.memory_shelf.find.Given as goal

abbrev pub invariant-loop-held : goal.invariant-loop-held
invariant-loop-held l =
    file_named l.name (files_of l.files) ≡ file_named l.name (files_of (drop l.held-index l.files))
