-- Fixed boxes: which stretches of a path they bar, and the first that comes near one.
use Rattle.std.specs.Prelude.{Bool, true, not, ◌&&◌, List, [], ◌∷◌, Option, Some, None}
use Rattle.std.specs.List.{find}
use Rattle.nc_number.specs.declared.path.Path.{Path}
use Rattle.nc_number.specs.declared.point.Point.{Point}
use Rattle.nc_number.specs.Path.{is_same}
use Rattle.nc_number.specs.Position.{IsPosition}
use Rattle.zone_area.specs.Area.{is_clear}
use Rattle.zone_moves.specs.declared.fixed.Barred.{Barred}
use Rattle.zone_moves.specs.declared.fixed.FixedBox.{FixedBox}
use Rattle.zone_moves.specs.declared.fixed.Keeps.{Keeps}
use Rattle.zone_moves.specs.declared.fixed.Keeps.TheVariants.{Whole, Rapids}
use Rattle.zone_moves.specs.declared.stretch.Stretch.{Stretch}

-- a box bars a stretch of this kind: one for all of a path each of them, one for rapid moves these
abbrev pub binds : Keeps → Bool → Bool
binds Whole rapid = true
binds Rapids rapid = rapid

-- the box bars the stretch of the path, and the two come within the gap
abbrev pub is_barred : Point → Path → Stretch → FixedBox → Bool
is_barred gap path stretch fixed =
    (is_same fixed.path path && binds fixed.keeps stretch.rapid) && not (is_clear gap stretch.area fixed.area)

-- the stretch with its box if there is one, else what is found later
abbrev pub barred_or : Stretch → Option FixedBox → Option Barred → Option Barred
barred_or stretch (Some fixed) later = Some (record { stretch = stretch; fixed = fixed })
barred_or stretch None later = later

-- the first of the stretches of a path that a box bars, with the first such box
abbrev pub first_barred : Point → Path → List FixedBox → List Stretch → Option Barred
first_barred gap path boxes [] = None
first_barred gap path boxes (stretch ∷ stretches) =
    barred_or stretch (find (is_barred gap path stretch) boxes) (first_barred gap path boxes stretches)

-- the corners of a fixed box are positions
abbrev pub IsFixed : FixedBox → Type 0
IsFixed fixed = IsPosition fixed.area.low × IsPosition fixed.area.high
