-- A history without edits is that of some turns: for Alike.
use Rattle.std.proofs.Common.{◌≡◌, List, [], ◌∷◌, ◌++◌, Option, Some, None, refl, ap, sym, subst, ◌∙◌}
use Rattle.nc_number.specs.declared.path.Path.{Path}
use Rattle.nc_moves.specs.declared.alarm.Alarm.{Alarm}
use Rattle.run_records.specs.Entries.{Entry, edit_of}
use Rattle.run_records.specs.declared.edit.Edit.{Edit}
use Rattle.two_path.specs.Machine.{MachineView}
use Rattle.two_path.specs.Turns.{Tapes, entry_of}
use Rattle.two_path.specs.Edits.{behind_edit_of, edit_entry, unless_alarm}
use Rattle.two_path.specs.Histories.{Event, TurnOf, EditOf, behind_event, list_of, records_of, run, history, turns_of}
use Rattle.race_zones.specs.OneZoning.{HasNoEdit}

-- what stands behind some records has no edit if all have none
behind_records : (first more : List Entry) → HasNoEdit (first ++ more) → HasNoEdit more
behind_records [] more none = none
behind_records (e ∷ first) more none = behind_records first more none.1

-- turns that make the records of these events, and lead where they do
pub record IsOfTurns (tapes : Tapes) (m : MachineView) (events : List Event) : Type 0 where
  pub turns : List Path
  pub records : history tapes m (turns_of turns) ≡ history tapes m events
  pub leads : run tapes m (turns_of turns) ≡ run tapes m events

-- events whose records have no edit are turns, but for edits that do nothing
pub of_turns : (tapes : Tapes) (m : MachineView) (events : List Event) → HasNoEdit (history tapes m events) → IsOfTurns tapes m events
of_turns tapes m [] none = record { turns = []; records = refl; leads = refl }
of_turns tapes m (TurnOf path ∷ events) none =
    let to = behind_event tapes (TurnOf path) m in
    let more = of_turns tapes to events (behind_records (list_of (entry_of tapes path m)) (history tapes to events) none) in
    record {
      turns = path ∷ more.turns;
      records = ap (λ rest. list_of (entry_of tapes path m) ++ rest) more.records;
      leads = more.leads;
    }
of_turns tapes m (EditOf path edit ∷ events) none =
    go m.alarm refl none
    (λ rest. of_turns tapes (behind_event tapes (EditOf path edit) m) events rest)
  where
    go : (a : Option Alarm) → m.alarm ≡ a
        → HasNoEdit (unless_alarm a [] (edit_entry path edit ∷ []) ++ history tapes (behind_event tapes (EditOf path edit) m) events)
        → (HasNoEdit (history tapes (behind_event tapes (EditOf path edit) m) events) → IsOfTurns tapes (behind_event tapes (EditOf path edit) m) events)
        → IsOfTurns tapes m (EditOf path edit ∷ events)
    go None e none further = let is : Some edit ≡ None = none.0 in absurd cc
    go (Some alarm) e none further =
        let more = further none in
        let still : behind_event tapes (EditOf path edit) m ≡ m = rw e refl in
        let silent : records_of tapes (EditOf path edit) m ≡ [] = rw e refl in
        record {
          turns = more.turns;
          records = ap (λ x. history tapes x (turns_of more.turns)) (sym still)
              ∙ (more.records ∙ ap (λ (first : List Entry). first ++ history tapes (behind_event tapes (EditOf path edit) m) events) (sym silent));
          leads = ap (λ x. run tapes x (turns_of more.turns)) (sym still) ∙ more.leads;
        }
