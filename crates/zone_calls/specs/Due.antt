-- What is due to three texts and a text of zones, whoever asks.
use Rattle.std.specs.Prelude.{◌≡◌, ℕ, ◌&&◌, nat_le, List, length, Ok, Err}
use Rattle.nc_verify.specs.declared.verified.Verified.{Verified}
use Rattle.nc_verify.specs.Verdict.{Texts}
use Rattle.run_records.specs.Entries.{Entry}
use Rattle.zone_cell.specs.Plans.{plan_of}
use Rattle.zone_cell.specs.declared.plan.Plan.{Plan}
use Rattle.lathe_calls.specs.Answers.{Answer, tells, nothing}
use Rattle.lathe_calls.specs.declared.pair_texts.TheConstants.{LONGEST_SETTINGS}
use Rattle.lathe_calls.specs.declared.said.Said.{Said}
use Rattle.lathe_calls.specs.Due.{AreRecordsInTurn, IsOfPair}
use Rattle.lathe_calls.specs.Said.{IsSaid}
use Rattle.lathe_calls.specs.Statuses as exit
use Rattle.lathe_calls.specs.Texts.{are_fit}
use Rattle.lathe_calls.specs.Traced.{end_of}
use Rattle.zone_calls.specs.Zoned.{IsZonedOf, bad_zone_text}

-- what is asked for of the run of a pair whose paths take turns; or nothing if memory runs out
pub data AreZonesOf (limit : ℕ) (plan : Plan) (pair : Verified) : Answer → Type 0 where
  -- what is asked for of the records of that run, which ended so
  ran : (entries : List Entry) {answer : Answer} → AreRecordsInTurn limit pair entries
      → IsZonedOf plan pair entries (end_of pair entries) answer → AreZonesOf limit plan pair answer
  -- memory ran out
  unran : AreZonesOf limit plan pair nothing

-- what is asked for of the run of three texts; status 1 and the first line of the zones that is not
-- allowed, or else the line of the refusal of the texts; nothing if memory runs out
pub data AreZones (limit : ℕ) (zones : List ℕ) (texts : Texts) : Answer → Type 0 where
  -- the text of zones asks for this
  asked : {plan : Plan} {answer : Answer} → plan_of zones ≡ Ok plan → IsOfPair (AreZonesOf limit plan) texts answer
      → AreZones limit zones texts answer
  -- a line of the text of zones is not allowed
  bad_zones : {line : ℕ} → plan_of zones ≡ Err line → AreZones limit zones texts (tells exit.refused (bad_zone_text line))
  -- memory ran out while the text of zones was read
  unread_zones : AreZones limit zones texts nothing

-- what a call says of three texts and a text of zones, and what it leaves in the caller's room
abbrev pub AreZonesSaid : ℕ → List ℕ → Texts → List ℕ → List ℕ → Said → Type 0
AreZonesSaid limit zones texts before after it =
    IsSaid (are_fit texts && nat_le (length zones) LONGEST_SETTINGS)
    (λ status text. AreZones limit zones texts (tells status text)) before after it
