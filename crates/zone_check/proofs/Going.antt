-- The zones while the records of a history are done again one by one: what is kept goes on to be
-- all zones. `kept_boxes` and `boxes` (src/meetings.rt) rest on it.
use Rattle.std.proofs.Common.{◌≡◌, ℕ, ◌≤◌, List, [], ◌∷◌, ◌++◌, length, drop, Result, Ok, Err, ap, sym, ◌∙◌}
use Rattle.std.specs.Prelude.{IfOk}
use Rattle.std.proofs.lemmas.List.{at_drop_all}
use Rattle.run_records.specs.Entries.{Entry}
use Rattle.two_path.specs.declared.turn.Turn.{Turn}
use Rattle.two_path.specs.Machine.{MachineView}
use Rattle.two_path.specs.Turns.{Tapes}
use Rattle.two_path.specs.Histories.{behind_entry}
use Rattle.two_path.specs.Again.{turn_of_entry}
use Rattle.zone_cell.specs.declared.cell.Zone.{Zone}
use Rattle.zone_cell.specs.Zones.{ZonesView}
use Rattle.zone_check.specs.Kept.{KeptView, kept_with, standing_zone, zones_from}

-- with one record more done, what is kept and the records that are left give the same zones
pub zones_on : (tapes : Tapes) (zones : ZonesView) (m after : MachineView) (k more : KeptView) (all : List Zone) (left rest : List Entry) (e : Entry) (turn : Turn)
    → left ≡ e ∷ rest → after ≡ behind_entry tapes e m → turn ≡ turn_of_entry tapes e m → more ≡ kept_with zones e turn after k
    → zones_from tapes zones m k left ≡ all → zones_from tapes zones after more rest ≡ all
zones_on tapes zones m after k more all left rest e turn is is_after is_turn is_more so_far =
    rw (is_more, is_turn, is_after) (ap (zones_from tapes zones m k) (sym is) ∙ so_far)

-- behind the last record, the zones kept and that of the last segment are all zones
pub zones_at_end : (tapes : Tapes) (zones : ZonesView) (m : MachineView) (k : KeptView) (all : List Zone) (entries : List Entry) (i : ℕ)
    → length entries ≤ i → zones_from tapes zones m k (drop i entries) ≡ all → k.list ++ standing_zone zones k.standing ∷ [] ≡ all
zones_at_end tapes zones m k all entries i le so_far =
    sym (at_drop_all (λ es. zones_from tapes zones m k es) entries i le) ∙ so_far

-- an answer that is the one list, if there is an answer, is the other list that equals it
pub same_list : {X E : Type 0} (items : X → List Zone) (result : Result X E) (a b : List Zone) → a ≡ b
    → IfOk result (λ x. items x ≡ a) → IfOk result (λ x. items x ≡ b)
same_list items (Ok x) a b e is = is ∙ e
same_list items (Err fault) a b e is = tt
