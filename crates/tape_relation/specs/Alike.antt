-- When two lines of a tape say the same: what the law `lines_that_say_the_same_read_the_same` asks
-- of the lines of two texts. The law of carriage returns is shown by it too, and `Fits` is a
-- premise of most laws of edits (src/edits.rt). For this crate alone.
use Rattle.std.specs.Prelude.{◌≡◌, ℕ, ◌≤◌, false, nat_lt, List, length}
use Rattle.nc_number.specs.declared.limits.TheConstants.{LONGEST_LINE, LONGEST_TAPE}
use Rattle.nc_text.specs.Lines.{Line, is_percent}
use Rattle.line_text.specs.Said.{line_says}

-- both lines begin with `%` or neither does; if neither does, they say the same, or have the same
-- refusal by themselves; both are too long or neither is
pub record IsAlike (skips : ℕ) (a b : Line) : Type 0 where
  -- both begin with `%`, or neither does
  pub percent : is_percent a.bytes ≡ is_percent b.bytes
  -- if they do not, they say the same, or have the same refusal by themselves
  pub says : is_percent a.bytes ≡ false → line_says skips a.bytes a.ended ≡ line_says skips b.bytes b.ended
  -- both are longer than 512 bytes, or neither is
  pub long : nat_lt LONGEST_LINE (length a.bytes) ≡ nat_lt LONGEST_LINE (length b.bytes)

-- the text has at most 4 MiB: it is not refused for its length
abbrev pub Fits : List ℕ → Type 0
Fits text = length text ≤ LONGEST_TAPE
