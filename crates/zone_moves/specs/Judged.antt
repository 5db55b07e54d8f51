-- What is hit first in the stretches of both paths.
use Rattle.std.specs.Prelude.{List, Option, Some, None}
use Rattle.nc_number.specs.declared.both.Both.{Both}
use Rattle.nc_number.specs.declared.path.Path.{Path}
use Rattle.nc_number.specs.declared.path.Path.TheVariants.{One, Two}
use Rattle.zone_moves.specs.declared.fixed.Barred.{Barred}
use Rattle.zone_moves.specs.declared.judging.Hit.{Hit}
use Rattle.zone_moves.specs.declared.judging.Hit.TheVariants as hit
use Rattle.zone_moves.specs.declared.stretch.Stretch.{Stretch}
use Rattle.zone_moves.specs.Fixed.{first_barred}
use Rattle.zone_moves.specs.Pairs.{first_pair}
use Rattle.zone_moves.specs.Stretches.{CellView}

-- the hit of two stretches, if there are two, else one that is found later
abbrev pub pair_hit : Option (Both Stretch) → Option Hit → Option Hit
pair_hit (Some pair) later = Some (hit.Paths pair.one pair.two)
pair_hit None later = later

-- the hit of a stretch and a box, if there is one, else one that is found later
abbrev pub barred_hit : Path → Option Barred → Option Hit → Option Hit
barred_hit path (Some barred) later = Some (hit.Fixed path barred.stretch barred.fixed.number)
barred_hit path None later = later

-- what is hit: first two stretches of the paths, then one of path 1 and a box, then one of path 2
-- and a box; none if all keep the gap
abbrev pub judged : CellView → List Stretch → List Stretch → Option Hit
judged cell lefts rights =
    pair_hit (first_pair cell.gap lefts rights)
    (barred_hit One (first_barred cell.gap One cell.boxes lefts)
    (barred_hit Two (first_barred cell.gap Two cell.boxes rights) None))
