-- Where the tool is after plain blocks. src/block.rt computes it.
use Rattle.std.specs.Prelude.{List, [], ◌∷◌, unwrap_or}
use Rattle.nc_number.specs.declared.point.Point.{Point}
use Rattle.plain_block.specs.declared.block.PlainBlock.{PlainBlock}
use Rattle.plain_block.specs.declared.block.PlainBlock.TheVariants.{Move, Dwell}

-- the point to which a block leads; a rest leads nowhere
abbrev pub point_after : Point → PlainBlock → Point
point_after at (Move course x z) = record { x = unwrap_or x at.x; z = unwrap_or z at.z }
point_after at (Dwell ms) = at

-- the point to which blocks lead, one after another
abbrev pub after_all : Point → List PlainBlock → Point
after_all at [] = at
after_all at (block ∷ blocks) = after_all (point_after at block) blocks
