-- The records of edits may follow any history behind which no alarm stands, if the settings allow
-- so many records more. `make_edits` (src/making.rt) rests on it.
use Rattle.std.proofs.Common.{◌≡◌, inr, ℕ, ◌+◌, ◌≤◌, None, List, [], ◌∷◌, ◌++◌, length, refl, sym, ap, subst, arith, ◌∙◌, length-append}
use Rattle.std.proofs.lemmas.List.{length-map}
use Rattle.nc_number.specs.declared.path.Path.{Path}
use Rattle.nc_number.specs.declared.path.Path.TheVariants.{One, Two}
use Rattle.edit_texts.specs.declared.edit_list.PathEdit.{PathEdit}
use Rattle.nc_verify.specs.declared.verified.Verified.{Verified}
use Rattle.run_records.specs.declared.edit.Edit.{Edit}
use Rattle.run_records.specs.Entries.{Entry}
use Rattle.two_path.specs.Edits.{behind_edit_of}
use Rattle.two_path.specs.Histories.{IsLegal, behind_entry, fold}
use Rattle.two_path.specs.Machine.{MachineView}
use Rattle.two_path.specs.Turns.{Tapes}
use Rattle.two_path.proofs.Folds.{legal_join}
use Rattle.nc_restart.specs.History.{IsHistory}
use Rattle.nc_restart.specs.Pair.{machine_behind, opening_of, tapes_in}
use Rattle.run_edits.specs.Made.{record_of, records_of}

-- an edit raises no alarm and clears none
alarm_stays : (path : Path) (edit : Edit) (m : MachineView) → (behind_edit_of path edit m).alarm ≡ m.alarm
alarm_stays One edit m = refl
alarm_stays Two edit m = refl

-- edits may follow each other at a machine without an alarm
all_follow : (tapes : Tapes) (m : MachineView) (edits : List PathEdit) → m.alarm ≡ None → IsLegal tapes m (records_of edits)
all_follow tapes m [] calm = tt
all_follow tapes m (what ∷ edits) calm = (
  inr (record { edit = what.edit; is = refl; calm = calm }),
  all_follow tapes (behind_entry tapes (record_of what) m) edits (alarm_stays what.path what.edit m ∙ calm),
)

-- the records of edits may follow a history without an alarm, if the settings allow so many more
pub followed : (pair : Verified) (found : List Entry) (edits : List PathEdit) → IsHistory pair found → (machine_behind pair found).alarm ≡ None
    → length found + length edits ≤ pair.settings.records → IsHistory pair (found ++ records_of edits)
followed pair found edits history calm few = record {
  legal = legal_join (tapes_in pair) (opening_of pair) found (records_of edits) history.legal
      (all_follow (tapes_in pair) (machine_behind pair found) edits calm);
  few = omega (arith, few, length-append found (records_of edits), length-map edits record_of);
}
