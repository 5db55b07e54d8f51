-- The searches of a tape for any of several sequence numbers: those of the computed GOTOs, and
-- those of the calls of each long quiet program. For this crate alone. A stretch is the run of
-- blocks up to a mark: a wait, an end, an M99 without a number, or a loud call. A loud program
-- comes to a wait or an end, itself or by its calls; the others are quiet.
use Rattle.std.specs.Prelude.{◌≡◌, ℕ, ◌<◌, ◌⊎◌, Bool, false, List, length, Some, slice_get}
use Rattle.block_order.specs.declared.control.Control.{Control}
use Rattle.block_order.specs.declared.program.ControlBlock.{ControlBlock}
use Rattle.block_order.specs.declared.program.ControlProgram.{ControlProgram}
use Rattle.wait_order.specs.declared.search.Search.{Search}
use Rattle.wait_order.specs.declared.search.Search.TheVariants.{Computed}
use Rattle.block_order.specs.Order.{blocks}
use Rattle.block_order.specs.Loud.{loud}
use Rattle.wait_order.specs.Searchers.{is_searcher, is_sought, is_call_of, has_back_to}
use Rattle.wait_order.specs.Waiting.{IsSearchStray}

-- The program is quiet (it comes to no wait and no end) and has more than 64 blocks, so that its
-- returns are gathered once for all its calls. `IsShort` of Waiting and `MANY_BLOCKS` of
-- src/searches.rt have this number too.
pub record IsLongQuiet (tape : List ControlProgram) (called : ℕ) : Type 0 where
  -- It has more than 64 blocks.
  pub long : 64 < length (blocks tape called)
  -- It comes to no wait and no end.
  pub quiet : loud tape called ≡ false

-- The search is that of the calls of this program of these blocks, for the numbers of its M99.
pub record IsCallSearch (called : ℕ) (bs : List ControlBlock) (search : Search) : Type 0 where
  -- The blocks that search are the calls of the program.
  pub calls : (c : Control) → is_searcher search c ≡ is_call_of called c
  -- The numbers that are sought are those of the program's M99.
  pub numbers : (n : ℕ) → is_sought search n ≡ has_back_to bs n

-- The search is that of the calls of a long quiet program.
pub record IsReturnSearch (tape : List ControlProgram) (called : ℕ) (search : Search) : Type 0 where
  -- The program is quiet and long.
  pub program : IsLongQuiet tape called
  -- The search is that of its calls.
  pub serves : IsCallSearch called (blocks tape called) search

-- One of these searches is that of the program's calls.
abbrev pub HasReturnSearch : List ControlProgram → ℕ → List Search → Type 0
HasReturnSearch tape called searches =
    (i : ℕ) × (search : Search) × (slice_get searches i ≡ Some search) × IsReturnSearch tape called search

-- The searches are that of the computed GOTOs and those of the calls of each long quiet program
-- among the first n.
pub record AreSearchesBelow (tape : List ControlProgram) (n : ℕ) (searches : List Search) : Type 0 where
  -- Each search is that of the computed GOTOs or of the calls of a long quiet program.
  pub each : (i : ℕ) (search : Search) → slice_get searches i ≡ Some search
      → (search ≡ Computed) ⊎ ((called : ℕ) × IsReturnSearch tape called search)
  -- That of the computed GOTOs is among them.
  pub computed : (i : ℕ) × (slice_get searches i ≡ Some Computed)
  -- That of each long quiet program among the first n is among them.
  pub calls : (i : ℕ) (program : ControlProgram) → i < n → slice_get tape i ≡ Some program
      → IsLongQuiet tape program.number → HasReturnSearch tape program.number searches

-- The searches are all those of the tape.
abbrev pub AreSearches : List ControlProgram → List Search → Type 0
AreSearches tape searches = AreSearchesBelow tape (length tape) searches

-- The block at `place` may lead to another stretch by one of the first n searches.
abbrev pub IsSearchStrayBelow : (ℕ → Bool) → List Search → ℕ → List ControlBlock → ℕ → Type 0
IsSearchStrayBelow loud searches n bs place =
    (i : ℕ) × (search : Search) × (i < n) × (slice_get searches i ≡ Some search)
    × IsSearchStray loud (is_searcher search) (is_sought search) bs place
