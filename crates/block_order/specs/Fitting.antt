-- Loops whose heads and ends fit together: what holds of them, and what the table of src/loops.rt
-- has of them, place by place. What is wrong with loops is in Loops.
use Rattle.std.specs.Prelude.{◌≡◌, ◌≢◌, ◌↔◌, ◌⊎◌, ℕ, ◌<◌, ◌≤◌, List, Option, Some, slice_get}
use Rattle.block_order.specs.declared.control.Control.TheVariants.{EndLoop}
use Rattle.block_order.specs.declared.program.ControlBlock.{ControlBlock}
use Rattle.block_order.specs.Order.{IsLoop, head_name, control_at}
use Rattle.block_order.specs.Loops.{IsMismatch, open_before, places, latest}

-- The heads and ends of a program's loops fit together.
abbrev pub Fits : List ControlBlock → Type 0
Fits bs = (place : ℕ) → IsMismatch bs place → ⊥

-- The head of the innermost loop that is open before the block.
abbrev pub innermost : List ControlBlock → ℕ → Option ℕ
innermost bs place = latest (places (open_before bs place))

-- At each place below n the list has the head of the innermost loop that is open before the block
-- there.
abbrev pub IsInside : List ControlBlock → ℕ → List (Option ℕ) → Type 0
IsInside bs n inside = (place : ℕ) → place < n → slice_get inside place ≡ Some (innermost bs place)

-- At each head the list has the place of its loop's END if that lies below n, and it has nothing
-- else.
abbrev pub IsEnds : List ControlBlock → ℕ → List (Option ℕ) → Type 0
IsEnds bs n ends = (head close : ℕ) → (slice_get ends head ≡ Some (Some close)) ↔ (IsLoop bs head close × (close < n))

-- P holds of this place and of no other.
abbrev pub IsOnly : (ℕ → Type 0) → ℕ → Type 0
IsOnly P place = P place × ((other : ℕ) → P other → other ≡ place)

-- The loops of a program whose heads and ends fit together are nested.
pub record IsNested (bs : List ControlBlock) : Type 0 where
  -- Each head has an END.
  pub heads : (head name : ℕ) → head_name (control_at bs head) ≡ Some name → (close : ℕ) × IsLoop bs head close
  -- Each END ends the loop of exactly one head.
  pub ends : (close name : ℕ) → control_at bs close ≡ Some (EndLoop name)
      → (head : ℕ) × IsOnly (λ first. IsLoop bs first close) head
  -- Of two loops the later one begins behind the earlier one or ends inside it.
  pub nest : (head close inner last : ℕ) → IsLoop bs head close → IsLoop bs inner last → head < inner
      → (close < inner) ⊎ (last < close)
  -- A loop inside another has another name.
  pub names_differ : (head close inner last : ℕ) → IsLoop bs head close → IsLoop bs inner last
      → head < inner → inner ≤ close → head_name (control_at bs head) ≢ head_name (control_at bs inner)
