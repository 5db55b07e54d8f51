-- The refusal of a text of zones, by its line (`ZoneFault`, src/reading.rt).
use Rattle.std.specs.Prelude.{ℕ}
use Rattle.zone_cell.specs.declared.reading.ZoneFault.{ZoneFault}

-- what a definition sees of a fault: its line
abbrev pub fault_line : ZoneFault → ℕ
fault_line fault = fault.line
