-- What is told of a text of zones that is no good, and what is told of a history by one that is.
-- How zones are found is in zone_check, and how races are, in race_report.
use Rattle.std.specs.Prelude.{◌≡◌, ℕ, List, [], ◌++◌, ◌==◌, if◌then◌else◌, length, Err}
use Rattle.nc_number.specs.declared.cause.Cause.TheVariants.{BadZone}
use Rattle.text_pieces.specs.Refusals.{refused_line_text}
use Rattle.nc_restart.specs.Pair.{opening_of, tapes_in}
use Rattle.nc_verify.specs.declared.verified.Verified.{Verified}
use Rattle.run_records.specs.Entries.{Entry}
use Rattle.zone_cell.specs.Lines.{list_text, head_text, end_text}
use Rattle.zone_cell.specs.Zones.{ZonesView}
use Rattle.zone_cell.specs.Plans.{plan_of}
use Rattle.zone_cell.specs.declared.plan.Plan.{Plan}
use Rattle.zone_cell.specs.declared.plan.Plan.TheVariants.{Areas, Moves}
use Rattle.zone_cell.specs.declared.finding.Finding.{Finding}
use Rattle.zone_cell.specs.HitLines.{finding_texts, hit_count}
use Rattle.zone_moves.specs.Stretches.{CellView}
use Rattle.move_list.specs.EndText as ending
use Rattle.nc_outside.specs.declared.reason.Reason.{Reason}
use Rattle.nc_outside.specs.declared.reason.Reason.TheVariants as Reason
use Rattle.race_report.specs.declared.race.Race.{Race}
use Rattle.race_report.specs.Texts as race
use Rattle.zone_check.specs.Laps.{findings_of_history}
use Rattle.zone_check.specs.Segments.{zones_of_history}
use Rattle.lathe_calls.specs.Answers.{Answer, tells, nothing}
use Rattle.lathe_calls.specs.Races.{AreRaces}
use Rattle.lathe_calls.specs.Statuses as exit

-- The line of output for a text of zones whose line `line` is refused.
abbrev pub bad_zone_text : ℕ → List ℕ
bad_zone_text line = refused_line_text BadZone line

-- Status 1 and the first line that is not allowed; or no text, if memory ran out.
pub data IsUnzoned (text : List ℕ) : Answer → Type 0 where
  -- the first line that is no entry of zones
  bad_zones : {line : ℕ} → plan_of text ≡ Err line → IsUnzoned text (tells exit.refused (bad_zone_text line))
  -- memory ran out
  unread_zones : IsUnzoned text nothing

-- The text of the zones of a history of a pair.
abbrev pub zones_text : ZonesView → Verified → List Entry → List ℕ
zones_text zones pair entries = list_text (zones_of_history (tapes_in pair) (opening_of pair) zones entries)

-- The lines before the last of a run that is not over, or that an alarm or a fault ended: how many
-- records it has, and why it ended. A run that both paths finished has none.
unfoldable pub unfinished_text : ℕ → Reason → List ℕ
unfinished_text count Reason.Done = []
unfinished_text count (Reason.Alarm alarm) = ending.end_text count (Reason.Alarm alarm)
unfinished_text count Reason.Stopped = ending.end_text count Reason.Stopped
unfinished_text count Reason.Full = ending.end_text count Reason.Full
unfinished_text count Reason.DiskFault = ending.end_text count Reason.DiskFault
unfinished_text count (Reason.TurretFault path) = ending.end_text count (Reason.TurretFault path)

-- The line of a pair that has so many races, as `races` prints it: another timing makes other moves,
-- of which nothing is said here. A pair without a race has none.
unfoldable pub races_line : ℕ → List ℕ
races_line races = if races == 0 then [] else race.head_text races

-- The last lines of a run with so many records, which ended so, of a pair with so many races: why it
-- ended, if both paths did not finish it; how many races there are, if there are any; and how many
-- segments are hit.
unfoldable pub last_text : ℕ → Reason → ℕ → ℕ → List ℕ
last_text count reason races hits = unfinished_text count reason ++ (races_line races ++ end_text hits)

-- The text of what is hit in the segments of a run with so many records, which ended so, of a pair
-- with so many races.
unfoldable pub judged_text : List Finding → ℕ → Reason → ℕ → List ℕ
judged_text findings count reason races =
    (head_text (length findings) ++ finding_texts 0 findings) ++ last_text count reason races (hit_count findings)

-- The text of what is hit in a history of a pair with so many races, which ended so, move by move.
abbrev pub findings_text : CellView → Verified → List Entry → Reason → ℕ → List ℕ
findings_text cell pair entries reason races =
    judged_text (findings_of_history (tapes_in pair) (opening_of pair) cell entries) (length entries) reason races

-- What is due to what a text of zones asks for of a history of a pair that ended so: its zones, or
-- what is hit move by move with the number of the pair's races; nothing if memory runs out.
pub data IsZonedOf (plan : Plan) (pair : Verified) (entries : List Entry) (reason : Reason) : Answer → Type 0 where
  -- the zones
  areas : {zones : ZonesView} → plan ≡ Areas zones → IsZonedOf plan pair entries reason (tells exit.done (zones_text zones pair entries))
  -- what is hit move by move, and these are the races
  moves : {cell : CellView} (races : List Race) → plan ≡ Moves cell → AreRaces pair races
      → IsZonedOf plan pair entries reason (tells exit.done (findings_text cell pair entries reason (length races)))
  -- memory ran out
  unzoned : IsZonedOf plan pair entries reason nothing
