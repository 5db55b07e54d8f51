-- Which programs are loud: they reach a wait or an end, themselves or by their calls. And the
-- marks, the blocks at which a program's labels change, which cut it into stretches.
use Rattle.std.specs.Prelude.{◌≡◌, ◌↔◌, ℕ, zero, suc, Bool, true, false, ◌||◌, ◌⊎◌, List, [], ◌∷◌, ◌++◌, length, take, Some, if◌then◌else◌}
use Rattle.block_order.specs.declared.control.Control.{Control}
use Rattle.block_order.specs.declared.control.Control.TheVariants.{Wait, End, Call, Back}
use Rattle.block_order.specs.declared.label.Mark.{Mark}
use Rattle.block_order.specs.declared.label.Mark.TheVariants as mark
use Rattle.block_order.specs.declared.program.ControlBlock.{ControlBlock}
use Rattle.block_order.specs.declared.program.ControlProgram.{ControlProgram}
use Rattle.block_order.specs.Order.{blocks, control_at}

-- A block of this control is a wait or an end, or calls a program that is known to be loud.
abbrev pub is_loud_block : (ℕ → Bool) → Control → Bool
is_loud_block known (Wait code) = true
is_loud_block known End = true
is_loud_block known (Call program repeats) = known program
is_loud_block known other = false

-- One of the blocks is loud, by what is known.
abbrev pub has_loud_block : (ℕ → Bool) → List ControlBlock → Bool
has_loud_block known [] = false
has_loud_block known (b ∷ bs) = is_loud_block known b.control || has_loud_block known bs

-- Whether the program reaches a wait or an end by fewer than n calls.
abbrev pub known_loud : List ControlProgram → ℕ → ℕ → Bool
known_loud tape zero program = false
known_loud tape (suc n) program = has_loud_block (known_loud tape n) (blocks tape program)

-- A program is loud if it, or one that it calls, directly or through others, has a wait or an end.
-- The others are quiet.
unfoldable pub loud : List ControlProgram → ℕ → Bool
loud tape program = known_loud tape (length tape) program

-- A wait or an end of the program.
abbrev pub HasStop : List ControlProgram → ℕ → Type 0
HasStop tape program =
    (block : ℕ) × ((control_at (blocks tape program) block ≡ Some End)
    ⊎ ((code : ℕ) × (control_at (blocks tape program) block ≡ Some (Wait code))))

-- So many calls lead from the program to one that has a wait or an end.
abbrev pub Reaches : List ControlProgram → ℕ → ℕ → Type 0
Reaches tape zero program = HasStop tape program
Reaches tape (suc n) program =
    (block called repeats : ℕ) × (control_at (blocks tape program) block ≡ Some (Call called repeats)) × Reaches tape n called

-- A program is loud exactly if some number of calls leads from it to a wait or an end.
abbrev pub IsLoudExactly : List ControlProgram → Type 0
IsLoudExactly tape = (program : ℕ) → (loud tape program ≡ true) ↔ ((n : ℕ) × Reaches tape n program)

-- The one mark of a block of this control, or none if it is no mark: a wait, an end, a call of a
-- loud program and an M99 without a number are marks.
abbrev pub mark_of : (ℕ → Bool) → Control → List Mark
mark_of loud (Wait code) = mark.Wait code ∷ []
mark_of loud End = mark.End ∷ []
mark_of loud (Call program repeats) = if loud program then mark.Call program repeats ∷ [] else []
mark_of loud Back = mark.Back ∷ []
mark_of loud other = []

-- The marks of these blocks, in order.
abbrev pub marks : (ℕ → Bool) → List ControlBlock → List Mark
marks loud [] = []
marks loud (b ∷ bs) = mark_of loud b.control ++ marks loud bs

-- The stretch in which a block lies: how many marks stand before it. A mark is the last block of
-- its stretch.
abbrev pub stretch : (ℕ → Bool) → List ControlBlock → ℕ → ℕ
stretch loud bs block = length (marks loud (take block bs))
