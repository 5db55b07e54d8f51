-- Which tapes are accepted, said by their lists of labels (waits and ends, in order) and without
-- the faults of waits. The law `a_tape_is_accepted_exactly_with_one_list` (src/tape.rt) is said by
-- it; no other crate cites it.
use Rattle.std.specs.Prelude.{◌≡◌, List, Ok}
use Rattle.nc_text.specs.declared.tape.Program.{Program}
use Rattle.block_words.specs.declared.dialect.Dialect.{Dialect}
use Rattle.block_order.specs.Faults.{Finding, Fitting, IsClear}
use Rattle.block_order.specs.Labels.{IsUnforked}
use Rattle.tape_flow.specs.Controls.{controls}
use Rattle.tape_flow.specs.Forms.{ProgramForm, programs_read}

-- All blocks read so, programs and loops fit together, jumps and calls find what they name, and the
-- tape has one list of labels.
pub record ReadsWithOneList (dialect : Dialect) (tape : List Program) (programs : List ProgramForm) : Type 0 where
  -- The blocks read as these programs.
  pub reads : programs_read dialect tape ≡ Ok programs
  -- Programs and loops fit together.
  pub fits : IsClear (controls programs) Fitting
  -- Jumps and calls find what they name.
  pub finds : IsClear (controls programs) Finding
  -- Whatever the variables hold, a path comes to one list of labels.
  pub unforked : IsUnforked (controls programs)
