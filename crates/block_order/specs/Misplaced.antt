-- How the first block of a program that does not fit with its loops is found in one pass. For
-- src/mismatch.rt, whose stack of open loops has the latest last; the specs have the latest first.
use Rattle.std.specs.Prelude.{ℕ, suc, ◌<◌, ◌≤◌, ◌==◌, Bool, false, not, List, [], ◌∷◌, length, map, reverse, Option, Some, None, if◌then◌else◌}
use Rattle.std.specs.List.{list_any}
use Rattle.block_order.specs.declared.control.Control.{Control}
use Rattle.block_order.specs.declared.control.Control.TheVariants.{While, Do, EndLoop}
use Rattle.block_order.specs.declared.mismatch.OpenLoop.{OpenLoop}
use Rattle.block_order.specs.declared.program.ControlBlock.{ControlBlock}
use Rattle.block_order.specs.Order.{or_else}
use Rattle.block_order.specs.Loops.{Open, open_behind, IsMismatch}

-- An entry of the code's stack as an open loop of the specs.
abbrev pub open_loop_of : OpenLoop → Open
open_loop_of x = record { place = x.place; name = x.name }

-- The code's stack as the list of open loops of the specs, the latest first. The name stands for
-- the stack as contracts see it.
unfoldable pub open_loops : List OpenLoop → List Open
open_loops xs = reverse (map open_loop_of xs)

-- One of these loops has this name.
abbrev pub has_name : ℕ → List Open → Bool
has_name name loops = list_any (λ loop. loop.name == name) loops

-- The loop opened last has this name.
abbrev pub is_latest : ℕ → List Open → Bool
is_latest name [] = false
is_latest name (loop ∷ loops) = loop.name == name

-- With these loops open a block of this control is misplaced: a head inside a loop of its name, or
-- an END that is not of the latest one's name.
abbrev pub is_misplaced : List Open → Control → Bool
is_misplaced loops (While name) = has_name name loops
is_misplaced loops (Do name) = has_name name loops
is_misplaced loops (EndLoop name) = not (is_latest name loops)
is_misplaced loops other = false

-- The place of the first block that is misplaced, among blocks of which the first stands at a
-- place, with the given loops open before them.
abbrev pub first_misplaced : ℕ → List Open → List ControlBlock → Option ℕ
first_misplaced place loops [] = None
first_misplaced place loops (b ∷ bs) =
    if is_misplaced loops b.control then Some place else first_misplaced (suc place) (open_behind place b.control loops) bs

-- The head of the loop that was opened first, the last of the list.
abbrev pub earliest : List Open → Option ℕ
earliest [] = None
earliest (loop ∷ loops) = or_else (earliest loops) (Some loop.place)

-- The place is that of the program's first mismatch; there is none if no block is one.
abbrev pub IsFirstMismatch : List ControlBlock → Option ℕ → Type 0
IsFirstMismatch bs None = (place : ℕ) → IsMismatch bs place → ⊥
IsFirstMismatch bs (Some first) =
    (first < length bs) × IsMismatch bs first × ((place : ℕ) → IsMismatch bs place → first ≤ place)
