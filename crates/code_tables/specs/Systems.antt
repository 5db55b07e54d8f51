-- The table of each G-code system.
use Rattle.std.specs.Prelude.{List}
use Rattle.code_tables.specs.declared.row.Row.{Row}
use Rattle.code_tables.specs.declared.system.System.{System}
use Rattle.code_tables.specs.declared.system.System.TheVariants as system
use Rattle.code_tables.specs.SystemA.{system_a_rows}
use Rattle.code_tables.specs.SystemB.{system_b_rows}

-- the G codes of a system
abbrev pub rows_of_system : System → List Row
rows_of_system system.A = system_a_rows
rows_of_system system.B = system_b_rows
