-- The programs outside that the words name, as the verdict on waits takes them.
-- What `top` promises is said in it; no other crate takes it.
use Rattle.std.specs.Prelude.{Option, Some, None}
use Rattle.command_words.specs.declared.command.ProgramRange.{ProgramRange}
use Rattle.open_order.specs.declared.outside.Outside.{Outside}

-- the range of O numbers that `--outside` names, or none
abbrev pub outside_in : Option ProgramRange → Option Outside
outside_in None = None
outside_in (Some range) = Some (record { least = range.least; greatest = range.greatest })
