-- The lines of what a turret got, and how far a sink has them. The type of src/line_turret.rt keeps
-- them.
use Rattle.std.specs.Prelude.{◌≡◌, ℕ, List, [], ◌∷◌, ◌++◌, take, Option, Some, None, if◌then◌else◌}
use Rattle.std.specs.Option.{ForSome}
use Rattle.nc_outside.specs.declared.got.Got.{Got}
use Rattle.nc_outside.specs.declared.got.Got.TheVariants.{Placed, Moved, Rested}
use Rattle.nc_outside.specs.declared.rest.Rest.TheVariants.{Place, Wait, End}
use Rattle.nc_outside.specs.Received.{TurretState}
use Rattle.move_text.specs.MoveText.{line_text, placed_text}
use Rattle.turret_lines.specs.Meetings.{Standing, no_standing, is_written, meeting_text, standing_behind, standing_of, wait_text}

-- the line of one place, move or wait that a turret got; other rests have none
abbrev pub got_text : Got → List ℕ
got_text (Placed at) = placed_text at
got_text (Moved made) = line_text made.line made.what
got_text (Rested Place) = []
got_text (Rested (Wait code)) = wait_text code
got_text (Rested End) = []

-- the lines that a stream which stands so gets by this: that of the meeting at the wait before it, if
-- it stood at one, and its own
abbrev pub lines_at : Standing → Got → List ℕ
lines_at at what = if is_written what then meeting_text at.met at.waits ++ got_text what else []

-- the lines that a stream which stands so gets by all these
abbrev pub lines_from : Standing → List Got → List ℕ
lines_from at [] = []
lines_from at (what ∷ got) = lines_at at what ++ lines_from (standing_behind at what) got

-- the lines of what a turret got, in order
unfoldable pub stream_of : List Got → List ℕ
stream_of got = lines_from no_standing got

-- the first bytes of the lines that a stream which stands so gets by this, if there is one
abbrev pub part_text : Standing → Option Got → ℕ → List ℕ
part_text at None size = []
part_text at (Some next) size = take size (lines_at at next)

-- the bytes are the lines of what a turret got, and after them may stand a part of the lines of one
-- thing more, from their start
pub record HasPart (bytes : List ℕ) (got : List Got) : Type 0 where
  -- what those lines would be of, if there is one
  pub next : Option Got
  -- how many of their bytes there are at most
  pub size : ℕ
  -- the bytes are the lines and that part
  pub parted : bytes ≡ stream_of got ++ part_text (standing_of got) next size

-- what a sink tells is the lines of what the turret got, and nothing else if the turret has not
-- failed
pub record HasStream (written : Option (List ℕ)) (got : List Got) (faults : ℕ) : Type 0 where
  -- without a fault it is the lines and nothing else
  pub whole : faults ≡ 0 → ForSome written (λ bytes. bytes ≡ stream_of got)
  -- after a fault a part of one more line may follow
  pub parted : ∥ ForSome written (λ bytes. HasPart bytes got) ∥₁

-- the state of a turret that tells what it got, by so many calls and with so many faults
abbrev pub told_state : List Got → ℕ → ℕ → TurretState
told_state got calls faults = record { received = Some (record { got = got; calls = calls }); faults = faults }
