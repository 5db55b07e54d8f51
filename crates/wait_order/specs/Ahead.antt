-- What is kept of the blocks that search, ahead of each place, and which of them is the first in
-- another stretch. For this crate alone. A stretch is the run of blocks up to a mark: a wait, an
-- end, an M99 without a number, or a loud call. A loud program comes to a wait or an end, itself or
-- by its calls; the others are quiet.
use Rattle.std.specs.Prelude.{◌≢◌, ℕ, ◌<◌, ◌≤◌, Bool, List, length}
use Rattle.block_order.specs.declared.control.Control.{Control}
use Rattle.wait_order.specs.declared.searchers.SearchersAhead.{SearchersAhead}
use Rattle.block_order.specs.declared.program.ControlBlock.{ControlBlock}
use Rattle.block_order.specs.Loud.{stretch}
use Rattle.wait_order.specs.Searchers.{AreNext, AreLater, IsSearcherAt}

-- The kept lists name, for each place, the next block that searches, and the next one after the
-- stretch of that place.
pub record AreAhead (loud : ℕ → Bool) (searches : Control → Bool) (bs : List ControlBlock) (ahead : SearchersAhead) : Type 0 where
  -- For each place the next block that searches.
  pub next : AreNext searches bs 0 ahead.next.items
  -- For each place the next block that searches after its stretch.
  pub later : AreLater loud searches bs 0 ahead.later.items

-- `found` is the first block from `from` on that searches and lies in another stretch than the
-- target, or the place after the last block if there is none.
pub record IsFirstOther (loud : ℕ → Bool) (searches : Control → Bool) (bs : List ControlBlock) (from target found : ℕ) : Type 0 where
  -- It is the place of a block or the one after the last.
  pub within : found ≤ length bs
  -- If it is a block, it searches, from `from` on, in another stretch.
  pub is : found < length bs → (from ≤ found) × IsSearcherAt searches bs found × (stretch loud bs found ≢ stretch loud bs target)
  -- No earlier block from `from` on does so.
  pub first : (block : ℕ) → from ≤ block → IsSearcherAt searches bs block → stretch loud bs block ≢ stretch loud bs target
      → found ≤ block
