-- The blocks of a program that search alike, and the next of them ahead of each place. A place is
-- the index of a block in its program. For this crate alone. A stretch is the run of blocks up to a
-- mark: a wait, an end, an M99 without a number, or a loud call. A loud program comes to a wait or
-- an end, itself or by its calls; the others are quiet.
use Rattle.std.specs.Prelude.{◌≡◌, ℕ, zero, suc, ◌+◌, ◌≤◌, ◌==◌, nat_eq, Bool, true, false, ◌||◌, List, [], ◌∷◌, length, drop, None, Some, slice_index, if◌then◌else◌}
use Rattle.std.specs.HashSet.{contains}
use Rattle.block_order.specs.declared.control.Control.{Control}
use Rattle.block_order.specs.declared.control.Control.TheVariants.{Goto, Call, BackTo}
use Rattle.block_order.specs.declared.program.ControlBlock.{ControlBlock}
use Rattle.wait_order.specs.declared.search.Search.{Search}
use Rattle.wait_order.specs.declared.search.Search.TheVariants.{Computed, Calls}
use Rattle.block_order.specs.Order.{control_at}
use Rattle.block_order.specs.Loud.{mark_of}

-- The control is a GOTO to a calculated number.
abbrev pub is_computed : Control → Bool
is_computed (Goto None) = true
is_computed other = false

-- The control is a call of the program.
abbrev pub is_call_of : ℕ → Control → Bool
is_call_of called (Call program repeats) = program == called
is_call_of called other = false

-- A block of this control is one of those that search.
abbrev pub is_searcher : Search → Control → Bool
is_searcher Computed c = is_computed c
is_searcher (Calls called numbers) c = is_call_of called c

-- The search may be for this sequence number.
abbrev pub is_sought : Search → ℕ → Bool
is_sought Computed n = true
is_sought (Calls called numbers) n = contains nat_eq numbers n

-- The control is an M99 with this number.
abbrev pub is_back_to : ℕ → Control → Bool
is_back_to n (BackTo own) = n == own
is_back_to n other = false

-- One of these blocks is an M99 with this number.
abbrev pub has_back_to : List ControlBlock → ℕ → Bool
has_back_to [] n = false
has_back_to (b ∷ bs) n = is_back_to n b.control || has_back_to bs n

-- The block at a place is one of those that search.
abbrev pub IsSearcherAt : (Control → Bool) → List ControlBlock → ℕ → Type 0
IsSearcherAt searches bs place = (c : Control) × (control_at bs place ≡ Some c) × (searches c ≡ true)

-- The place of the first of these blocks that searches, or the place after them. The first of them
-- stands at `place`.
abbrev pub next_searcher : (Control → Bool) → List ControlBlock → ℕ → ℕ
next_searcher searches [] place = place
next_searcher searches (b ∷ bs) place = if searches b.control then place else next_searcher searches bs (suc place)

-- `later` if the block is no mark, else `next`.
abbrev pub behind_marks : ℕ → ℕ → ℕ → ℕ
behind_marks zero next later = later
behind_marks (suc marks) next later = next

-- The place of the first block that searches after the stretch in which these blocks begin, or the
-- place after them.
abbrev pub later_searcher : (ℕ → Bool) → (Control → Bool) → List ControlBlock → ℕ → ℕ
later_searcher loud searches [] place = place
later_searcher loud searches (b ∷ bs) place =
    behind_marks (length (mark_of loud b.control)) (next_searcher searches bs (suc place)) (later_searcher loud searches bs (suc place))

-- The list has the next block that searches for each place from `from` on, and for the place after
-- the last block.
pub record AreNext (searches : Control → Bool) (bs : List ControlBlock) (from : ℕ) (next : List ℕ) : Type 0 where
  -- There is an entry for each block and one for the place after the last.
  pub count : length next ≡ length bs + 1
  -- The entry of a place is the next block that searches from there.
  pub each : (place : ℕ) → from ≤ place → place ≤ length bs → slice_index next place ≡ next_searcher searches (drop place bs) place

-- The list has the next block that searches after the stretch of each place from `from` on, and of
-- the place after the last block.
pub record AreLater (loud : ℕ → Bool) (searches : Control → Bool) (bs : List ControlBlock) (from : ℕ) (later : List ℕ) : Type 0 where
  -- There is an entry for each block and one for the place after the last.
  pub count : length later ≡ length bs + 1
  -- The entry of a place is the next block that searches after its stretch.
  pub each : (place : ℕ) → from ≤ place → place ≤ length bs → slice_index later place ≡ later_searcher loud searches (drop place bs) place
