-- What a file of zones asks for, and what is due to it: of the run on a disk, or of the files of a
-- pair. The texts are in zone_calls; a file that can't be read is in Fetched.
use Rattle.std.specs.Prelude.{◌≡◌, ℕ, List, [], ◌∷◌, Ok}
use Rattle.nc_outside.specs.Files.{ShelfState}
use Rattle.nc_restart.specs.Pair.{machine_behind}
use Rattle.nc_verify.specs.declared.verified.Verified.{Verified}
use Rattle.run_records.specs.Entries.{Entry}
use Rattle.lathe_calls.specs.Answers.{Answer}
use Rattle.zone_calls.specs.Due.{AreZones}
use Rattle.zone_calls.specs.Zoned.{IsZonedOf}
use Rattle.zone_cell.specs.Plans.{plan_of}
use Rattle.zone_cell.specs.declared.plan.Plan.{Plan}
use Rattle.lathe_looks.specs.Fetched.{AreHad}
use Rattle.lathe_looks.specs.Named.{PairWithZones, zones_named}
use Rattle.lathe_looks.specs.Standing.{reason_of}

-- The shelf has a text of the file, and this is what that text asks for.
pub record IsPlanOf (old new : ShelfState) (name : List ℕ) (plan : Plan) : Type 0 where
  -- the text of the file
  pub text : List ℕ
  -- the shelf has this text, and was asked for the file
  pub had : AreHad old new (zones_named name) (text ∷ [])
  -- the text asks for this
  pub is : plan_of text ≡ Ok plan

-- What is due to a history of a pair and the text of a file: its zones, or what is hit move by move.
abbrev pub IsPlanned : Plan → Verified → List Entry → Answer → Type 0
IsPlanned plan pair entries = IsZonedOf plan pair entries (reason_of (machine_behind pair entries))

-- What is due to a text of zones and the texts of a pair: what it asks for of the run of so many
-- records at most whose paths take turns.
abbrev pub AreZonesFor : ℕ → PairWithZones → Answer → Type 0
AreZonesFor limit texts = AreZones limit texts.zones texts.pair
