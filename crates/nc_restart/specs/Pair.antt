-- The pair of tapes that a run is made with, and its machine: before the first turn, and behind
-- records.
use Rattle.std.specs.Prelude.{◌≡◌, List, map}
use Rattle.run_records.specs.Entries.{Entry}
use Rattle.run_records.specs.declared.header.Header.{Header}
use Rattle.cell_settings.specs.View.{view}
use Rattle.tape_flow.specs.Forms.{program_form}
use Rattle.two_path.specs.Machine.{MachineView}
use Rattle.two_path.specs.Start.{machine_at_start}
use Rattle.two_path.specs.Turns.{Tapes, tapes_of}
use Rattle.two_path.specs.Histories.{fold}
use Rattle.nc_verify.specs.declared.verified.Verified.{Verified}
use Rattle.nc_verify.specs.Verdict.{Texts, AreAccepted}

-- the texts in the header of a run
abbrev pub texts_of : Header → Texts
texts_of header = record { left = header.left; right = header.right; settings = header.settings }

-- these texts are accepted, and this is their pair
abbrev pub IsPairOf : Texts → Verified → Type 0
IsPairOf texts pair =
    AreAccepted texts (view pair.settings) (map program_form pair.left.programs) (map program_form pair.right.programs)

-- the blocks of both tapes of the pair, as the machine takes them
abbrev pub tapes_in : Verified → Tapes
tapes_in pair = tapes_of pair.left pair.right

-- the machine of the pair before its first turn
abbrev pub opening_of : Verified → MachineView
opening_of pair = machine_at_start pair.left pair.right pair.settings

-- the machine of the pair behind these records: they are done one after another
abbrev pub machine_behind : Verified → List Entry → MachineView
machine_behind pair entries = fold (tapes_in pair) (opening_of pair) entries

-- the pairs have one machine, their settings allow as many records, and their tapes say the same
pub record IsSamePair (pair other : Verified) : Type 0 where
  -- their tapes have the same blocks
  pub tapes : tapes_in pair ≡ tapes_in other
  -- their machines are the same before the first turn
  pub opening : opening_of pair ≡ opening_of other
  -- their settings allow as many records
  pub records : pair.settings.records ≡ other.settings.records
  -- their tapes of path 1 say the same
  pub left : map program_form pair.left.programs ≡ map program_form other.left.programs
  -- their tapes of path 2 say the same
  pub right : map program_form pair.right.programs ≡ map program_form other.right.programs
