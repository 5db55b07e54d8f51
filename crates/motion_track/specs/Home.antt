-- The way home (G28): to the intermediate point, and then home along the named axes.
-- Block cites it, so the moves that other crates meet rest on it; no other crate cites it.
use Rattle.std.specs.Prelude.{Bool, if◌then◌else◌, List, [], ◌∷◌}
use Rattle.nc_number.specs.declared.point.Point.{Point}
use Rattle.nc_moves.specs.declared.motion.Move.{Move}
use Rattle.nc_moves.specs.declared.motion.Move.TheVariants.{Rapid}

-- the point with the named parts of `to`, and the others of `at`; x and z say whether X and Z are
-- named
abbrev pub point_with_named : Point → Point → Bool → Bool → Point
point_with_named at to x z = record { x = if x then to.x else at.x; z = if z then to.z else at.z }

-- a rapid of the named axes from `at` to the intermediate point, and one home
abbrev pub home_moves : Point → Point → Point → Bool → Bool → List Move
home_moves at mid home x z = Rapid (point_with_named at mid x z) ∷ Rapid (point_with_named at home x z) ∷ []
