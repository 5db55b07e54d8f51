-- The blocks of a form, by the axes that they move. src/block.rt makes them.
use Rattle.std.specs.Prelude.{ℤ, Some, None}
use Rattle.nc_number.specs.declared.point.Point.{Point}
use Rattle.plain_block.specs.declared.course.Course.{Course}
use Rattle.plain_block.specs.declared.block.PlainBlock.{PlainBlock}
use Rattle.plain_block.specs.declared.block.PlainBlock.TheVariants.{Move}

-- a block that moves across alone, in X
abbrev pub across_to : Course → ℤ → PlainBlock
across_to course x = Move course (Some x) None

-- a block that moves along alone, in Z
abbrev pub along_to : Course → ℤ → PlainBlock
along_to course z = Move course None (Some z)

-- a block that moves in X and in Z
abbrev pub straight_to : Course → Point → PlainBlock
straight_to course point = Move course (Some point.x) (Some point.z)
