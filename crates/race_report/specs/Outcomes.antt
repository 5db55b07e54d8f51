-- What it means that a pair comes to one outcome, and that its runs go alike, whichever path has which
-- turn. For the laws of src/laws.rt.
use Rattle.std.specs.Prelude.{List}
use Rattle.nc_number.specs.declared.path.Path.{Path}
use Rattle.nc_number.specs.declared.path.Path.TheVariants.{One, Two}
use Rattle.cell_settings.specs.declared.settings.Settings.{Settings}
use Rattle.tape_flow.specs.declared.flow.Flow.{Flow}
use Rattle.path_state.specs.Opening.{opening_path}
use Rattle.two_path.specs.Machine.{MachineView, opening}
use Rattle.two_path.specs.Turns.{tapes_of}
use Rattle.two_path.specs.Histories.{run, turns_of}
use Rattle.race_order.specs.Agreement.{AreDone, Agree, GoAlike}

-- the machine of a pair before its first turn
abbrev pub opening_of : Settings → Flow → Flow → MachineView
opening_of settings left right = opening (opening_path left settings One) (opening_path right settings Two)

-- any two lists of turns after which both paths have finished come to the same
abbrev pub HasOneOutcome : Settings → Flow → Flow → Type 0
HasOneOutcome settings left right =
    (turns others : List Path)
    → AreDone (run (tapes_of left right) (opening_of settings left right) (turns_of turns))
    → AreDone (run (tapes_of left right) (opening_of settings left right) (turns_of others))
    → Agree (tapes_of left right) (opening_of settings left right) turns others

-- the runs of any two lists of turns go alike, also if they stop, end by an alarm or could go on
abbrev pub AllGoAlike : Settings → Flow → Flow → Type 0
AllGoAlike settings left right =
    (turns others : List Path) → GoAlike (tapes_of left right) (opening_of settings left right) turns others
