-- How a run whose paths take turns ends, and what is told of it: by the machine, or by the number
-- of its records. Which records it has is in InTurn.
use Rattle.std.specs.Prelude.{ℕ, ◌==◌, List, length, Option, Some, None, unwrap_or, if◌then◌else◌}
use Rattle.nc_outside.specs.declared.halt.Halt.{Halt}
use Rattle.nc_outside.specs.declared.halt.Halt.TheVariants as halt
use Rattle.nc_outside.specs.declared.reason.Reason.{Reason}
use Rattle.nc_outside.specs.Reasons.{reason_of, end_or_bound}
use Rattle.run_records.specs.Entries.{Entry}
use Rattle.two_path.specs.Machine.{MachineView}
use Rattle.two_path.specs.Ending.{end_of}
use Rattle.two_path.specs.Turns.{Tapes}
use Rattle.two_path.specs.Histories.{fold}

-- what halts a run of `count` records that may have no more: the settings allow only these
-- (`most`), or no more were asked for
abbrev pub halt_at : ℕ → ℕ → Halt
halt_at count most = if count == most then halt.Full else halt.Budget

-- what halts a run of `count` records that may have `limit`, while the settings allow `most`, if
-- anything does
abbrev pub bound_by : ℕ → ℕ → ℕ → Option Halt
bound_by count limit most = if count == limit then Some (halt_at count most) else None

-- why no further turn comes: by the machine, or else by the number of its records
abbrev pub end_before : MachineView → ℕ → ℕ → Option Reason
end_before m limit most = end_or_bound (end_of m) (bound_by m.count limit most)

-- the end of a run of `count` records that may have no more, while the settings allow `most`
abbrev pub end_at : ℕ → ℕ → Reason
end_at count most = reason_of (halt_at count most)

-- how the run of these records ended: by the machine that they lead to, or else by their number
abbrev pub end_told : Tapes → MachineView → ℕ → List Entry → Reason
end_told tapes start most entries = unwrap_or (end_of (fold tapes start entries)) (end_at (length entries) most)
