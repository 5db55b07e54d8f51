-- Which blocks may pass a wait: those that may lead to another stretch of their program, and each
-- M99 with a number in a loud program other than the main one. A stretch is the run of blocks up to
-- a mark: a wait, an end, an M99 without a number, or a loud call. A loud program comes to a wait
-- or an end, itself or by its calls; the others are quiet. Deep chains of calls are in Deep. For
-- this crate alone: src/ways.rt, src/view.rt, src/search_strays.rt and src/waiting.rt ask for
-- these.
use Rattle.std.specs.Prelude.{◌≡◌, ◌≢◌, ◌⊎◌, ◌<◌, ◌≤◌, ℕ, Bool, true, false, List, length, Option, Some, None, slice_get}
use Rattle.block_order.specs.declared.control.Control.{Control}
use Rattle.block_order.specs.declared.control.Control.TheVariants.{Goto, Call, EndLoop, BackTo}
use Rattle.block_order.specs.declared.program.ControlBlock.{ControlBlock}
use Rattle.block_order.specs.declared.program.ControlProgram.{ControlProgram}
use Rattle.block_order.specs.Order.{blocks, main_number, control_at, IsLoop, Leads}
use Rattle.block_order.specs.Loud.{loud, stretch}
use Rattle.block_order.specs.declared.loops.Reach.{Reach}
use Rattle.block_order.specs.Table.{IsWithin}
use Rattle.wait_order.specs.Searchers.{IsSearcherAt}
use Rattle.block_order.specs.Faults.{Stands, Strays}

-- A jump from the block to the sequence number n leads to another stretch.
abbrev pub LeadsElsewhere : (ℕ → Bool) → List ControlBlock → ℕ → ℕ → Type 0
LeadsElsewhere loud bs block n =
    (target : ℕ) × Leads bs block n target × (stretch loud bs block ≢ stretch loud bs target)

-- The loop that ends at this block begins in another stretch.
abbrev pub ClosesElsewhere : (ℕ → Bool) → List ControlBlock → ℕ → Type 0
ClosesElsewhere loud bs close = (head : ℕ) × IsLoop bs head close × (stretch loud bs head ≢ stretch loud bs close)

-- One of these blocks is an M99 with the number n.
abbrev pub HasBack : List ControlBlock → ℕ → Type 0
HasBack bs n = (inner : ℕ) × (control_at bs inner ≡ Some (BackTo n))

-- The block searches, and for one of the numbers that it may search for it leads to another
-- stretch.
abbrev pub IsSearchStray : (ℕ → Bool) → (Control → Bool) → (ℕ → Bool) → List ControlBlock → ℕ → Type 0
IsSearchStray loud searches sought bs place =
    IsSearcherAt searches bs place × (n : ℕ) × (sought n ≡ true) × LeadsElsewhere loud bs place n

-- An M99 with a number among the called blocks leads from the block of the call to another stretch.
abbrev pub ReturnsElsewhere : (ℕ → Bool) → List ControlBlock → ℕ → List ControlBlock → Type 0
ReturnsElsewhere loud bs place called = (n : ℕ) × HasBack called n × LeadsElsewhere loud bs place n

-- The called program is quiet, and a return from it may lead to another stretch than that of the
-- call.
abbrev pub CallsElsewhere : List ControlProgram → ℕ → ℕ → ℕ → Type 0
CallsElsewhere tape program place called =
    (loud tape called ≡ false) × ReturnsElsewhere (loud tape) (blocks tape program) place (blocks tape called)

-- There are at most 64 blocks, so few that each call of their program looks at all of them. This
-- number stands in Searches (`IsLongQuiet`) too, and as 65 in src/searches.rt (`MANY_BLOCKS`).
abbrev pub IsShort : List ControlBlock → Type 0
IsShort bs = length bs ≤ 64

-- A block of this control, if its program is the main one or loud, may pass a wait without a search
-- for several numbers. By one number, by the end of its loop, or by a return of a short program
-- that it calls it may lead to another stretch; or it is an M99 with a number and its program not
-- the main one.
abbrev pub IsFixedStray : List ControlProgram → ℕ → ℕ → Control → Type 0
IsFixedStray tape program place (Goto None) = ⊥
IsFixedStray tape program place (Goto (Some n)) = LeadsElsewhere (loud tape) (blocks tape program) place n
IsFixedStray tape program place (EndLoop name) = ClosesElsewhere (loud tape) (blocks tape program) place
IsFixedStray tape program place (Call called repeats) =
    IsShort (blocks tape called) × CallsElsewhere tape program place called
IsFixedStray tape program place (BackTo n) =
    (program ≢ main_number tape) ⊎ ((program ≡ main_number tape) × LeadsElsewhere (loud tape) (blocks tape program) place n)
IsFixedStray tape program place other = ⊥

-- The block at this place of the program may pass a wait.
abbrev pub IsStray : List ControlProgram → ℕ → ℕ → Type 0
IsStray tape program place = (block : ControlBlock) × Stands tape program place block × Strays tape program place block

-- A number was found, and it is at most n.
abbrev pub IsAtMost : Option ℕ → ℕ → Type 0
IsAtMost None n = ⊥
IsAtMost (Some m) n = m ≤ n

-- `found` is the least number of which P holds; there is none if P holds of no number.
pub record IsLeast (P : ℕ → Type 0) (found : Option ℕ) : Type 0 where
  -- P holds of what is found.
  pub holds : (n : ℕ) → found ≡ Some n → P n
  -- Each number of which P holds is as great or greater.
  pub least : (n : ℕ) → P n → IsAtMost found n

-- The block searches, lies from `low` up to and without `high` and within reach of the target, and
-- is in another stretch than the target.
abbrev pub IsOtherIn : (ℕ → Bool) → (Control → Bool) → List ControlBlock → ℕ → ℕ → Reach → ℕ → ℕ → Type 0
IsOtherIn loud searches bs low high reach target block =
    (low ≤ block) × (block < high) × IsWithin reach block × IsSearcherAt searches bs block
    × (stretch loud bs block ≢ stretch loud bs target)

-- The block searches, a search for n leads it to the target, and the target lies in another
-- stretch.
abbrev pub IsLedTo : (ℕ → Bool) → (Control → Bool) → List ControlBlock → ℕ → ℕ → ℕ → Type 0
IsLedTo loud searches bs n target block =
    IsSearcherAt searches bs block × Leads bs block n target × (stretch loud bs block ≢ stretch loud bs target)

-- The block searches, and for one of the numbers sought it is led to the target in another stretch.
abbrev pub MayLeadTo : (ℕ → Bool) → (Control → Bool) → (ℕ → Bool) → List ControlBlock → ℕ → ℕ → Type 0
MayLeadTo loud searches sought bs target block = (n : ℕ) × (sought n ≡ true) × IsLedTo loud searches bs n target block

-- The block searches, and for one of the numbers sought it is led to a target in another stretch,
-- one of the first `targets` places of the program.
abbrev pub MayLeadBelow : (ℕ → Bool) → (Control → Bool) → (ℕ → Bool) → List ControlBlock → ℕ → ℕ → Type 0
MayLeadBelow loud searches sought bs targets block =
    (target : ℕ) × (target < targets) × MayLeadTo loud searches sought bs target block

-- The block at a place may pass a wait without a search for several numbers (`IsFixedStray`).
abbrev pub IsFixedStrayAt : List ControlProgram → ℕ → ℕ → Type 0
IsFixedStrayAt tape program place =
    (c : Control) × (control_at (blocks tape program) place ≡ Some c) × IsFixedStray tape program place c

-- This is the line of a block of the program that may pass a wait.
abbrev pub IsStrayLine : List ControlProgram → ℕ → ℕ → Type 0
IsStrayLine tape program line =
    (place : ℕ) × (block : ControlBlock) × Stands tape program place block × Strays tape program place block × (block.line ≡ line)

-- No block stands on a lower line than one before it.
abbrev pub HasRisingLines : List ControlBlock → Type 0
HasRisingLines bs =
    (i j : ℕ) (one other : ControlBlock) → i ≤ j → slice_get bs i ≡ Some one → slice_get bs j ≡ Some other → one.line ≤ other.line
