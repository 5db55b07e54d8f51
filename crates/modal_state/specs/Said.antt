-- What a word says if it is vacant, and the tool offset of a T word. No other crate cites it;
-- callers meet it in View and Words.
use Rattle.std.specs.Prelude.{ℕ, ◌%◌}
use Rattle.nc_number.specs.declared.value.Var.{Var}
use Rattle.nc_number.specs.declared.value.Var.TheVariants.{Vacant, Is}

-- what a word says; a vacant one says nothing, and then what was in force stays
abbrev pub said_or : Var → Var → Var
said_or Vacant before = before
said_or (Is value) before = Is value

-- the last two digits of a T word's number: the tool offset, or 0 for none
abbrev pub tool_offset : ℕ → ℕ
tool_offset tool = tool % 100
