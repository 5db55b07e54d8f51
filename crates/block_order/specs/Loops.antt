-- Which loops are open where, and when the heads and ends of a program's loops don't fit together:
-- the fault 52. src/mismatch.rt looks for it. A loop's END as a search finds it is in Order.
use Rattle.std.specs.Prelude.{◌≡◌, ◌≢◌, ℕ, suc, ◌==◌, List, [], ◌∷◌, length, map, take, Option, Some, None, Contains, if◌then◌else◌}
use Rattle.block_order.specs.declared.control.Control.{Control}
use Rattle.block_order.specs.declared.control.Control.TheVariants.{While, Do, EndLoop}
use Rattle.block_order.specs.declared.program.ControlBlock.{ControlBlock}
use Rattle.block_order.specs.Order.{control_at, head_name}

-- An open loop: one whose head came before and whose END did not.
pub record Open : Type 0 where
  -- The place of its head.
  pub place : ℕ
  -- Its name, 1, 2 or 3.
  pub name : ℕ

-- The loops that stay open once an END has closed the latest one of this name; all of them if none
-- has the name.
abbrev pub open_after_end : ℕ → List Open → List Open
open_after_end name [] = []
open_after_end name (loop ∷ loops) = if loop.name == name then loops else loop ∷ open_after_end name loops

-- The loops that are open behind a block at a place, the latest first: an END closes the latest
-- open one of its name.
abbrev pub open_behind : ℕ → Control → List Open → List Open
open_behind place (While name) loops = record { place = place; name = name } ∷ loops
open_behind place (Do name) loops = record { place = place; name = name } ∷ loops
open_behind place (EndLoop name) loops = open_after_end name loops
open_behind place other loops = loops

-- The loops that are open behind these blocks, of which the first stands at a place, if the given
-- loops are open before them.
abbrev pub open_after : ℕ → List Open → List ControlBlock → List Open
open_after place loops [] = loops
open_after place loops (b ∷ bs) = open_after (suc place) (open_behind place b.control loops) bs

-- The loops of a program that are open before the block at a place.
abbrev pub open_before : List ControlBlock → ℕ → List Open
open_before bs place = open_after 0 [] (take place bs)

-- The names of these open loops.
abbrev pub names : List Open → List ℕ
names loops = map (λ loop. loop.name) loops

-- The places of the heads of these open loops.
abbrev pub places : List Open → List ℕ
places loops = map (λ loop. loop.place) loops

-- The first entry of a list of names or places of open loops: that of the loop opened last.
abbrev pub latest : List ℕ → Option ℕ
latest [] = None
latest (name ∷ earlier) = Some name

-- The block at a place does not fit: a head without its END, an END without its head, a head inside
-- a loop of its own name, or an END that closes a loop while a later one is open.
pub data IsMismatch (bs : List ControlBlock) (place : ℕ) : Type 0 where
  -- A head whose loop is still open at the program's end.
  unclosed : Contains (places (open_before bs (length bs))) place → IsMismatch bs place
  -- An END without an open loop of its name.
  unopened : (name : ℕ) → control_at bs place ≡ Some (EndLoop name) → (Contains (names (open_before bs place)) name → ⊥)
      → IsMismatch bs place
  -- A head inside a loop of its own name.
  nested : (name : ℕ) → head_name (control_at bs place) ≡ Some name → Contains (names (open_before bs place)) name
      → IsMismatch bs place
  -- An END of a loop that is not the latest open one.
  overlap : (name : ℕ) → control_at bs place ≡ Some (EndLoop name) → Contains (names (open_before bs place)) name
      → latest (names (open_before bs place)) ≢ Some name → IsMismatch bs place
