-- How the fields of a disk that keeps every image stand for what it holds, and what is always true
-- of them. For src/disk.rt alone.
use Rattle.disk_images.specs.declared.disk.ImagesDisk.TheInside.{Inside}
use Rattle.disk_images.specs.Images.{Images, IsKept}

-- what the fields hold
abbrev pub images_of : Inside → Images
images_of d = record {
  bytes = d.bytes.items;
  others = d.others.items;
  past = d.past.items;
  failing = d.failing.items;
  calls = d.calls;
  reach = d.reach;
  faults = d.faults;
}

-- the fields keep what is true of every such disk
abbrev pub HasKept : Inside → Type 0
HasKept d = IsKept (images_of d)
