-- A summary by the moves of both paths, and by the machine after them: what the code puts is the
-- summary of the history.
-- The proof of `put_summary` (src/summary.rt) uses it.
use Rattle.std.proofs.Common.{◌≡◌, ℕ, List, ◌++◌, length, Result, subst, ◌∙◌}
use Rattle.std.specs.Prelude.{codes}
use Rattle.nc_number.specs.declared.path.Path.TheVariants.{One, Two}
use Rattle.nc_outside.specs.declared.sink.PutFault.{PutFault}
use Rattle.nc_outside.specs.Written.{SinkState}
use Rattle.nc_verify.specs.Printed.{IsPut}
use Rattle.cell_settings.specs.declared.settings.Settings.{Settings}
use Rattle.tape_flow.specs.declared.flow.Flow.{Flow}
use Rattle.run_records.specs.Entries.{Entry}
use Rattle.two_path.specs.Machine.{MachineView}
use Rattle.two_path.specs.Turns.{tapes_of}
use Rattle.two_path.specs.Histories.{fold}
use Rattle.nc_outside.specs.declared.lined_move.LinedMove.{LinedMove}
use Rattle.two_path.specs.Made.{moves_of}
use Rattle.two_path.specs.Start.{machine_at_start}
use Rattle.move_list.specs.Summary.{history_text, moves_text, numbers_line, outcome_text, pair_text, places_text, summary_text}

-- if this text of the moves and of the machine after them is put, the summary of the history is put
pub summary_put : (number : ℕ) (left right : Flow) (settings : Settings) (entries : List Entry) (one two : List LinedMove) (m : MachineView)
    (text : List ℕ) (a b : SinkState) (result : Result (Unit {0}) PutFault)
    → one ≡ moves_of (tapes_of left right) (machine_at_start left right settings) One entries
    → two ≡ moves_of (tapes_of left right) (machine_at_start left right settings) Two entries
    → m ≡ fold (tapes_of left right) (machine_at_start left right settings) entries
    → text ≡ pair_text number left.programs right.programs
    ++ (history_text entries ++ (numbers_line (codes "moves ") (length one) (length two) ++ places_text m))
    → IsPut a b text result → IsPut a b (summary_text number left right settings entries) result
unfolding moves_text outcome_text summary_text
summary_put number left right settings entries one two m text a b result is_one is_two is_m is put =
    subst (λ t. IsPut a b t result)
    (is ∙ (λ i. pair_text number left.programs right.programs
    ++ (history_text entries ++ (numbers_line (codes "moves ") (length (is_one i)) (length (is_two i)) ++ places_text (is_m i))))) put
