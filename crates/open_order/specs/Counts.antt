-- How many of the first blocks of a program are counted, for each number of them: those that may not
-- stand in a contour, or the marks. Two counts of the first kind say whether a contour has such a block;
-- a count of the second is the stretch of the next block. src/counts.rt makes the lists.
use Rattle.std.specs.Prelude.{ℕ, ◌+◌, Bool, true, false, List, [], ◌∷◌, if◌then◌else◌}
use Rattle.block_order.specs.declared.control.Control.{Control}
use Rattle.block_order.specs.declared.control.Control.TheVariants.{Wait, End, Call, Back}
use Rattle.block_order.specs.declared.program.ControlBlock.{ControlBlock}
use Rattle.open_order.specs.declared.counts.Counting.{Counting}
use Rattle.open_order.specs.declared.counts.Counting.TheVariants.{Disturbing, Marks}
use Rattle.open_order.specs.Contours.{disturbs}

-- whether a block of this control is a mark: a wait, an end, an M99 without a number, or a call of a
-- program that is loud, which means that it reaches a wait or an end
abbrev pub is_mark : (ℕ → Bool) → Control → Bool
is_mark loud (Wait code) = true
is_mark loud End = true
is_mark loud (Call program repeats) = loud program
is_mark loud Back = true
is_mark loud other = false

-- whether a block of this control is counted
abbrev pub is_counted : (ℕ → Bool) → Counting → Control → Bool
is_counted loud Disturbing control = disturbs loud control
is_counted loud Marks control = is_mark loud control

-- the count with a block of this control
abbrev pub count_behind : (ℕ → Bool) → Counting → ℕ → Control → ℕ
count_behind loud counting n control = if is_counted loud counting control then n + 1 else n

-- the counts with none of these blocks, one, two and so on up to all, if n were before them
abbrev pub counts_from : (ℕ → Bool) → Counting → ℕ → List ControlBlock → List ℕ
counts_from loud counting n [] = n ∷ []
counts_from loud counting n (b ∷ bs) = n ∷ counts_from loud counting (count_behind loud counting n b.control) bs
