-- The programs that a tape may lack, as `waits --outside` names them: the control has them in its
-- memory, and they neither wait nor end.
-- A call of such a program goes on to the next block (Reading), and is taken on trust (Trusted). No
-- other crate cites this file.
use Rattle.std.specs.Prelude.{ℕ, Bool, false, not, ◌==◌, ◌&&◌, nat_le, List, Option, Some, None}
use Rattle.std.specs.List.{list_any}
use Rattle.nc_text.specs.declared.tape.Program.{Program}
use Rattle.open_order.specs.declared.outside.Outside.{Outside}

-- the O number is in the range of the programs that a tape may lack, if there is one
abbrev pub is_in : Option Outside → ℕ → Bool
is_in None number = false
is_in (Some outside) number = nat_le outside.least number && nat_le number outside.greatest

-- the tape has the program
abbrev pub is_on : List Program → ℕ → Bool
is_on tape number = list_any (λ program. program.number == number) tape

-- the tape lacks the program of this O number, as it may
abbrev pub is_gone : Option Outside → List Program → ℕ → Bool
is_gone outside tape number = is_in outside number && not (is_on tape number)
