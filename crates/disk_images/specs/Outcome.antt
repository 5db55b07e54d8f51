-- What comes of a call that takes memory, a write or a sync: what is due, or out of memory. For
-- src/disk.rt and its proofs alone.
use Rattle.std.specs.Prelude.{◌≡◌, Bool, true}
use Rattle.disk_images.specs.Images.{Images}

-- The call fails where it is to fail, and the disk is what is due. Or there was no memory: the call
-- fails, and only the call and its fault are counted. `fails`: the call is to fail; `due`: the disk
-- that is due; `counted`: the disk before, with the call and its fault counted; `new`: the disk
-- after the call; the last truth value: the call failed.
pub data Comes (fails : Bool) (due counted new : Images) : Bool → Type 0 where
  -- the disk is what is due
  as_due : new ≡ due → Comes fails due counted new fails
  -- there was no memory, and only the call and its fault are counted
  for_want_of_memory : new ≡ counted → Comes fails due counted new true
