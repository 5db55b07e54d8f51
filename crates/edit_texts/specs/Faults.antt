-- The refusal of a text of edits, by its line. Which line is the first bad one is in Given.
use Rattle.std.specs.Prelude.{ℕ}
use Rattle.edit_texts.specs.declared.reading.EditFault.{EditFault}

-- what contracts see of a fault of the edits: its line
abbrev pub fault_line : EditFault → ℕ
fault_line fault = fault.line
