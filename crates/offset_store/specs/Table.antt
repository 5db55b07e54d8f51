-- The offsets of a path, as contracts see them, in 0.001 mm.
use Rattle.std.specs.Prelude.{◌≡◌, List, Option, Some, None, if◌then◌else◌}
use Rattle.nc_number.specs.declared.point.Point.{Point}
use Rattle.nc_number.specs.Position.{is_position, origin}
pub use Rattle.offset_store.specs.Lists.{offset_at}

-- the offsets of a path, each at the place of its number
pub record OffsetTable : Type 0 where
  -- the work offsets: 0 is the external one, 1 to 6 are those of G54 to G59
  pub work : List Point
  -- the geometry of the tool offsets 1 to 64, and at 0 the origin
  pub geometry : List Point
  -- the wear of the tool offsets 1 to 64, and at 0 the origin
  pub wear : List Point

-- tool offset 0 is no offset
pub record IsSound (o : OffsetTable) : Type 0 where
  -- its geometry is the origin
  pub no_geometry : offset_at o.geometry 0 ≡ origin
  -- its wear is the origin
  pub no_wear : offset_at o.wear 0 ≡ origin

-- the offset to a point, if no part of that is past 99,999.999 mm
abbrev pub offset_of : Point → Option Point
offset_of to = if is_position to then Some to else None
