-- How many blocks a tape has once its parts are written out, and the part with which it first has
-- more than 20,000. Src/sizes.rt computes `size_verdict`.
use Rattle.std.specs.Prelude.{ℕ, ◌+◌, ◌-◌, ⊤, nat_lt, List, [], ◌∷◌, length, Result, Ok, Err, if◌then◌else◌}
use Rattle.nc_number.specs.declared.limits.TheConstants.{MOST_BLOCKS}
use Rattle.cycle_form.specs.declared.fault.CycleFault.{CycleFault}
use Rattle.cycle_form.specs.declared.fault.CycleFault.TheVariants.{TooLarge}
use Rattle.cycle_form.specs.Parts.{PartView, part_blocks}

-- The count of blocks with those of a part in place of its lines.
abbrev pub blocks_with : ℕ → PartView → ℕ
blocks_with blocks part = (blocks + length (part_blocks part)) - length part.lines

-- The first of these lines, or 0 if there is none.
abbrev pub first_line : List ℕ → ℕ
first_line [] = 0
first_line (line ∷ lines) = line

-- Whether a tape of `blocks` blocks has at most 20,000 with these parts written out; else 94 at the
-- first line of the part with which it first has more.
unfoldable pub size_verdict : ℕ → List PartView → Result ⊤ CycleFault
size_verdict blocks [] = Ok tt
size_verdict blocks (part ∷ parts) =
    if nat_lt MOST_BLOCKS (blocks_with blocks part) then Err (TooLarge (first_line part.lines)) else size_verdict (blocks_with blocks part) parts
