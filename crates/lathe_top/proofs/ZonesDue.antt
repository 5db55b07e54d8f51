-- What is due to `zones` if a file gives none, and that what is due to a history depends only on the
-- texts of its pair.
-- DueOnce and the proof of `show_zoned` (src/looking.rt) use it.
use Rattle.std.proofs.Common.{◌≡◌, ℕ, List, length, refl}
use Rattle.nc_outside.specs.Files.{ShelfState}
use Rattle.nc_verify.specs.declared.verified.Verified.{Verified}
use Rattle.nc_outside.specs.declared.reason.Reason.{Reason}
use Rattle.nc_restart.specs.Pair.{IsSamePair, machine_behind}
use Rattle.run_records.specs.Entries.{Entry}
use Rattle.zone_cell.specs.Lines.{list_text}
use Rattle.zone_cell.specs.declared.plan.Plan.{Plan}
use Rattle.zone_check.specs.Laps.{findings_of_history}
use Rattle.zone_check.specs.Segments.{zones_of_history}
use Rattle.lathe_calls.specs.Answers.{Answer}
use Rattle.lathe_looks.specs.Fetched.{IsOfFiles, not_had, unread, answers}
use Rattle.lathe_looks.specs.Named.{only_text, zones_named}
use Rattle.lathe_looks.specs.Standing.{reason_of}
use Rattle.two_path.specs.Histories.{fold}
use Rattle.lathe_looks.specs.Zoned.{IsPlanned}
use Rattle.zone_calls.specs.Zoned as looked
use Rattle.zone_calls.specs.Zoned.{IsUnzoned, IsZonedOf, areas, judged_text, moves, unzoned}
use Rattle.lathe_top.specs.Kept.{RestsWhole}
use Rattle.lathe_top.specs.Lathe.{LatheState}
use Rattle.lathe_top.specs.Zoned.{IsZoned, bad_zones, unread_zones}
use Rattle.lathe_top.proofs.Agreed.{Agree}
use Rattle.lathe_top.proofs.OneRaces.{same_races}

-- what is told of a text that gives no zones is due to `zones`, if neither the disk nor a turret
-- was called
unzoned_text : (old new : LatheState) (text : List ℕ) (answer : Answer) → IsUnzoned text answer → RestsWhole old new → IsZoned old new text answer
unzoned_text old new text answer (looked.bad_zones is) rests = bad_zones is rests
unzoned_text old new text answer looked.unread_zones rests = unread_zones rests

-- what is told of a file that gives no zones is due to `zones`, if neither the disk nor a turret
-- was called
pub unzoned_due : (name : List ℕ) (shelf shelf' : ShelfState) (old new : LatheState) (answer : Answer)
    → IsOfFiles only_text (zones_named name) (Unit {0}) IsUnzoned shelf shelf' answer → RestsWhole old new
    → IsOfFiles only_text (zones_named name) (RestsWhole old new) (IsZoned old new) shelf shelf' answer
unzoned_due name shelf shelf' old new answer (not_had missing none) rests = not_had missing rests
unzoned_due name shelf shelf' old new answer (unread some none) rests = unread some rests
unzoned_due name shelf shelf' old new answer (answers text had is) rests = answers text had (unzoned_text old new (only_text text) answer is rests)

-- what is due to one history of pairs that are the same, which ended alike, agrees
pub zones_agree : (plan : Plan) (pair other : Verified) → IsSamePair pair other → (entries others : List Entry) (reason ended : Reason)
    → entries ≡ others → reason ≡ ended → (a b : Answer) → IsZonedOf plan pair entries reason a → IsZonedOf plan other others ended b → Agree a b
zones_agree plan pair other same entries others reason ended one alike a b (areas {zones} is) (areas {zones = zones'} too) =
    let what : zones ≡ zones' = cc in
    (refl, λ i. list_text (zones_of_history (same.tapes i) (same.opening i) (what i) (one i)))
zones_agree plan pair other same entries others reason ended one alike a b (areas is) (moves races too are) = absurd cc
zones_agree plan pair other same entries others reason ended one alike a b (areas is) unzoned = tt
zones_agree plan pair other same entries others reason ended one alike a b (moves races is are) (areas too) = absurd cc
zones_agree plan pair other same entries others reason ended one alike a b (moves {cell} races is are) (moves {cell = cell'} races' too are') =
    let what : cell ≡ cell' = cc in
    let list : races ≡ races' = same_races pair other same races races' are are' in
    (refl, λ i. judged_text (findings_of_history (same.tapes i) (same.opening i) (what i) (one i)) (length (one i)) (alike i) (length (list i)))
zones_agree plan pair other same entries others reason ended one alike a b (moves races is are) unzoned = tt
zones_agree plan pair other same entries others reason ended one alike a b unzoned two = tt

-- what is due to the history of the journal hangs on the texts of its pair alone
pub zones_hang : (plan : Plan) (pair other : Verified) → IsSamePair pair other → (entries : List Entry) (a b : Answer)
    → IsPlanned plan pair entries a → IsPlanned plan other entries b → Agree a b
zones_hang plan pair other same entries =
    zones_agree plan pair other same entries entries (reason_of (machine_behind pair entries)) (reason_of (machine_behind other entries)) refl
    (λ i. reason_of (fold (same.tapes i) (same.opening i) entries))
