-- How the fields of a disk with a fuse stand for what it is, and what is always true of them. For
-- src/fuse.rt alone.
use Rattle.std.specs.Prelude.{◌≡◌, ◌<◌}
use Rattle.disk_model.specs.declared.fuse.FuseDisk.TheInside.{Inside}
use Rattle.disk_model.specs.Fuse.{Fuse}

-- the fuse of these fields
abbrev pub fuse_of : Inside → Fuse
fuse_of f = record { inner = f.inner; passes = f.passes; burnt = f.burnt; reach = f.reach }

-- a fuse that has failed a call passes none on
abbrev pub IsBurntOut : Inside → Type 0
IsBurntOut f = 0 < f.burnt → f.passes ≡ 0
