-- What the drive of a turret does at the items of its line (moves, marks that ask whether the
-- turret is at rest, and the end), and how it halts the run at a fault (src/drive.rt).
use Rattle.std.specs.Prelude.{◌≡◌, ◌⊎◌, Bool, List, [], ◌∷◌, if◌then◌else◌}
use Rattle.nc_number.specs.declared.path.Path.{Path}
use Rattle.nc_outside.specs.declared.halt.Halt.TheVariants.{Turret}
use Rattle.nc_outside.specs.declared.stepper.Call.{Call}
use Rattle.nc_outside.specs.declared.stepper.Call.TheVariants.{Halt}
use Rattle.drive_line.specs.declared.item.Item.{Item}
use Rattle.drive_line.specs.declared.item.Item.TheVariants.{Move, Mark, Finish, End}
use Rattle.drive_line.specs.declared.phase.Phase.{Phase}
use Rattle.drive_line.specs.declared.phase.Phase.TheVariants.{Moving, Still, Failed, Halted}

-- the calls of a drive over its whole run: if its turret failed (true), one, which halts the run
-- for the path's turret; else none
abbrev pub halts_at : Path → Bool → List Call
halts_at path fault = if fault then Halt (Turret path) ∷ [] else []

-- the calls of a drive behind one item, whose turret stands so: if it has just failed, the run is
-- halted for it; else there is none
abbrev pub halts_for : Path → Phase → List Call
halts_for path Moving = []
halts_for path Still = []
halts_for path Failed = Halt (Turret path) ∷ []
halts_for path Halted = []

-- how a turret stands once its fault, if it has just failed, has halted the run
abbrev pub once_halted : Phase → Phase
once_halted Moving = Moving
once_halted Still = Still
once_halted Failed = Halted
once_halted Halted = Halted

-- how a turret stands that served the item: after a move it may be on its way, at a mark and where
-- its path has ended it stands still, or it failed; the end of the line is none of its business
abbrev pub StandsAt : Item → Phase → Type 0
StandsAt (Move what) phase = (phase ≡ Moving) ⊎ (phase ≡ Failed)
StandsAt (Mark code) phase = (phase ≡ Still) ⊎ (phase ≡ Failed)
StandsAt Finish phase = (phase ≡ Still) ⊎ (phase ≡ Failed)
StandsAt End phase = (phase ≡ Moving) ⊎ (phase ≡ Still)

-- the turret stands still, or its fault has halted the run
abbrev pub HasSettled : Phase → Type 0
HasSettled phase = (phase ≡ Still) ⊎ (phase ≡ Halted)
