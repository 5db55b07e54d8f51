-- Places along the axis of a cycle and beside it, and blocks that move there. src/along.rt makes
-- the blocks.
use Rattle.std.specs.Prelude.{ℤ}
use Rattle.nc_number.specs.declared.point.Point.{Point}
use Rattle.plain_block.specs.declared.block.PlainBlock.{PlainBlock}
use Rattle.plain_block.specs.declared.course.Course.{Course}
use Rattle.plain_block.specs.Blocks.{across_to, along_to}
use Rattle.peck_cycle.specs.declared.along.Along.{Along}
use Rattle.peck_cycle.specs.declared.along.Along.TheVariants.{Z, X}

-- the place of a point along the axis
abbrev pub place_along : Along → Point → ℤ
place_along Z p = p.z
place_along X p = p.x

-- and beside it
abbrev pub place_beside : Along → Point → ℤ
place_beside Z p = p.x
place_beside X p = p.z

-- a block that moves along the axis alone
abbrev pub block_along : Along → Course → ℤ → PlainBlock
block_along Z course to = along_to course to
block_along X course to = across_to course to

-- and one that moves beside it alone
abbrev pub block_beside : Along → Course → ℤ → PlainBlock
block_beside Z course to = across_to course to
block_beside X course to = along_to course to
