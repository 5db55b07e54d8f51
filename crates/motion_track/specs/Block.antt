-- The moves of a block, by the kind of its code. The moves of cycles (G90, G92, G94) are not here.
use Rattle.std.specs.Prelude.{◌≡◌, ℕ, Bool, true, false, ◌||◌, if◌then◌else◌, List, [], ◌∷◌, All, is_some, IfSome, Result, Ok}
use Rattle.code_tables.specs.declared.kind.CodeKind.{CodeKind}
use Rattle.code_tables.specs.declared.kind.CodeKind.TheVariants.{Rapid, Feed, ArcCw, ArcCcw, Thread, Home, Machine}
use Rattle.nc_number.specs.declared.point.Point.{Point}
use Rattle.nc_number.specs.Position.{IsWithin, origin}
use Rattle.nc_number.specs.Results.{◌>>=◌}
use Rattle.nc_moves.specs.declared.motion.Move.{Move}
use Rattle.nc_moves.specs.declared.motion.Move.TheVariants.{Rapid as RapidMove}
use Rattle.nc_moves.specs.Motion.{end_of}
use Rattle.motion_track.specs.declared.fault.MotionFault.{MotionFault}
use Rattle.motion_track.specs.declared.block.BlockMotion.{BlockMotion}
use Rattle.nc_number.specs.Axes.{is_named, IsAxisWithin}
use Rattle.motion_track.specs.Target.{target_of}
use Rattle.motion_track.specs.Cut.{line_of, thread_of}
use Rattle.motion_track.specs.Centre.{centre_of, IsLengthWithin}
use Rattle.motion_track.specs.Circle.{arc_of}
use Rattle.motion_track.specs.Home.{home_moves}

-- no length of a block is longer than that, in 0.001 mm; of its home and its feed nothing is said
pub record IsBlockWithin (far : ℕ) (block : BlockMotion) : Type 0 where
  -- where the turret stands before the block
  pub start : IsWithin far block.start
  -- the sum of the offsets in force
  pub shift : IsWithin far block.shift
  -- the word X or U
  pub x : IsAxisWithin far block.x
  -- the word Z or W
  pub z : IsAxisWithin far block.z
  -- the word I, if it is given
  pub i : IsLengthWithin far block.i
  -- the word K, if it is given
  pub k : IsLengthWithin far block.k
  -- the word R, if it is given
  pub r : IsLengthWithin far block.r

-- the block has a word of X or Z, absolute or incremental
abbrev pub names_axis : BlockMotion → Bool
names_axis block = is_named block.x || is_named block.z

-- a block moves only where it names an axis; an arc also moves by I or K alone, as a circle that
-- ends where it starts
abbrev pub is_move_due : CodeKind → BlockMotion → Bool
is_move_due ArcCw block = names_axis block || (is_some block.i || is_some block.k)
is_move_due ArcCcw block = names_axis block || (is_some block.i || is_some block.k)
is_move_due _ block = names_axis block

-- where the axis words lead from the start; an axis without a word stays
abbrev pub target_in : BlockMotion → Result Point MotionFault
target_in block = target_of block.start block.shift block.x block.z

-- an arc to where the axis words lead, round the centre that I, K and R give, or its alarm
abbrev pub arc_in : Bool → BlockMotion → Result Move MotionFault
arc_in clockwise block = do
  to ← target_in block
  arc_of block.start to clockwise (centre_of block.i block.k block.r) block.feed block.per_rev

-- the moves of a block that moves, by the kind of its code; or the alarm that comes first
abbrev pub moves_due : CodeKind → BlockMotion → Result (List Move) MotionFault
-- G00, a rapid to the target
moves_due Rapid block = do
  to ← target_in block
  Ok (RapidMove to ∷ [])
-- G01, a straight cut to it
moves_due Feed block = do
  to ← target_in block
  cut ← line_of to block.feed block.per_rev
  Ok (cut ∷ [])
-- G02, an arc clockwise
moves_due ArcCw block = do
  cut ← arc_in true block
  Ok (cut ∷ [])
-- G03, an arc counter-clockwise
moves_due ArcCcw block = do
  cut ← arc_in false block
  Ok (cut ∷ [])
-- G32, a straight thread, whose lead is F
moves_due Thread block = do
  to ← target_in block
  cut ← thread_of to block.feed
  Ok (cut ∷ [])
-- G28, a rapid of the named axes to the intermediate point, and one home
moves_due Home block = do
  between ← target_in block
  Ok (home_moves block.start between block.home (is_named block.x) (is_named block.z))
-- G53, a rapid to X and Z as the machine counts them
moves_due Machine block = do
  to ← target_of block.start origin block.x block.z
  Ok (RapidMove to ∷ [])
-- all other codes: the cycles, a dwell, and what only sets something, have no move here
moves_due _ block = Ok []

-- the moves of a block of this kind of code: none where none is due
abbrev pub moves_of : CodeKind → BlockMotion → Result (List Move) MotionFault
moves_of kind block = if is_move_due kind block then moves_due kind block else Ok []

-- every move that goes somewhere ends at a point of which P holds
abbrev pub AllEnd : (Point → Type 0) → List Move → Type 0
AllEnd P moves = All (λ move. IfSome (end_of move) P) moves

-- the point lies where the block starts along each axis that it does not name
abbrev pub KeepsUnnamed : BlockMotion → Point → Type 0
KeepsUnnamed block to =
    (is_named block.x ≡ false → to.x ≡ block.start.x) × (is_named block.z ≡ false → to.z ≡ block.start.z)
