-- The waits and meetings of a trace, as one who reads it line by line keeps them.
-- No other crate cites it: it is for the public law that meetings are numbered and paired
-- (src/laws.rt).
use Rattle.std.specs.Prelude.{◌≡◌, ℕ, ◌+◌, List, [], ◌∷◌, Option, Some, None}
use Rattle.nc_number.specs.declared.path.Path.{Path}
use Rattle.nc_number.specs.declared.path.Path.TheVariants.{One, Two}
use Rattle.trace_list.specs.TraceText.{TraceLine, At, Home, Shift, Spindle, Moved, Wait, Met, Raised, Ended}

-- a wait to which a path came: the line of its tape, and the code
pub record OpenWait : Type 0 where
  -- the line of the path's tape
  pub line : ℕ
  -- the code of the wait
  pub code : ℕ

-- the wait at this line with this code
abbrev pub open_wait : ℕ → ℕ → OpenWait
open_wait line code = record { line = line; code = code }

-- the path does not wait, by the open waits of path 1 and of path 2
abbrev pub Goes : Path → Option OpenWait → Option OpenWait → Type 0
Goes One one two = one ≡ None
Goes Two one two = two ≡ None

-- The lines are in order, after so many meetings and with these waits open. A path that waits has
-- no line before both paths meet. A meeting closes an open wait of each path: it has their code,
-- their lines, and the next number.
abbrev pub ArePaired : Option OpenWait → Option OpenWait → ℕ → List TraceLine → Type 0
ArePaired one two met [] = Unit {0}
ArePaired one two met (At path at ∷ rest) = Goes path one two × ArePaired one two met rest
ArePaired one two met (Home path at ∷ rest) = Goes path one two × ArePaired one two met rest
ArePaired one two met (Shift path line by ∷ rest) = Goes path one two × ArePaired one two met rest
ArePaired one two met (Spindle path line surface ∷ rest) = Goes path one two × ArePaired one two met rest
ArePaired one two met (Moved path made ∷ rest) = Goes path one two × ArePaired one two met rest
ArePaired one two met (Wait One line code ∷ rest) = (one ≡ None) × ArePaired (Some (open_wait line code)) two met rest
ArePaired one two met (Wait Two line code ∷ rest) = (two ≡ None) × ArePaired one (Some (open_wait line code)) met rest
ArePaired one two met (Met number code line_one line_two ∷ rest) =
    (one ≡ Some (open_wait line_one code)) × (two ≡ Some (open_wait line_two code)) × (number ≡ met + 1)
    × ArePaired None None number rest
ArePaired one two met (Raised alarm ∷ rest) = Goes alarm.path one two × ArePaired one two met rest
ArePaired one two met (Ended path line ∷ rest) = Goes path one two × ArePaired one two met rest
