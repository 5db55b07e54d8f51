-- The records before some turns and those of the turns, parted by their numbers in the whole history:
-- for the last law of src/laws.rt.
use Rattle.std.proofs.Common.{◌≡◌, List, [], ◌∷◌, ◌++◌, length, take, drop, refl, ap, sym, ◌∙◌, append_assoc}
use Rattle.run_records.specs.Entries.{Entry}
use Rattle.two_path.specs.Machine.{MachineView}
use Rattle.two_path.specs.Turns.{Tapes}
use Rattle.two_path.specs.Histories.{Event, behind_event, records_of, run, history}

-- the first of two lists is taken from both
pub first_taken : (first more : List Entry) → take (length first) (first ++ more) ≡ first
first_taken [] more = refl
first_taken (e ∷ first) more = ap (λ rest. e ∷ rest) (first_taken first more)

-- the second is left
pub more_left : (first more : List Entry) → drop (length first) (first ++ more) ≡ more
more_left [] more = refl
more_left (e ∷ first) more = more_left first more

-- the records of events and more events are those of the first and then those of the others
pub history_parts : (tapes : Tapes) (m : MachineView) (before after : List Event)
    → history tapes m (before ++ after) ≡ history tapes m before ++ history tapes (run tapes m before) after
history_parts tapes m [] after = refl
history_parts tapes m (e ∷ before) after =
    let next = behind_event tapes e m in
    ap (λ (rest : List Entry). records_of tapes e m ++ rest) (history_parts tapes next before after)
    ∙ sym (append_assoc (records_of tapes e m) (history tapes next before) (history tapes (run tapes next before) after))
