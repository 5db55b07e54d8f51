-- Which trails are in range.
use Rattle.std.specs.Prelude.{All}
use Rattle.nc_number.specs.Position.{IsPosition}
use Rattle.zone_moves.specs.Stretches.{TrailView, IsPlaced}

-- the path stands at a position, and its stretches are in range
pub record IsOnTrack (trail : TrailView) : Type 0 where
  -- it stands at a position
  pub at : IsPosition trail.at
  -- the areas of its stretches are in range
  pub placed : All IsPlaced trail.stretches
