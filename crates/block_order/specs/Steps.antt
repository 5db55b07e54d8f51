-- Which places may follow a place, whatever the variables hold, and the law of one path,
-- `KeepsLabels`. A place is the list of a path's open programs, the running one first. Its labels
-- ahead are the waits to which the path still comes, and last an end, the main program's new
-- beginning or the place past a program's last block.
use Rattle.std.specs.Prelude.{◌≡◌, ℕ, ◌<◌, ◌⊎◌, List, [], ◌∷◌, length, Option, Some, None, Ok}
use Rattle.block_order.specs.declared.control.Control.{Control}
use Rattle.block_order.specs.declared.control.Control.TheVariants.{Next, Goto, While, Do, EndLoop, Wait, End, Call, Back, BackTo}
use Rattle.block_order.specs.declared.frame.Frame.{Frame}
use Rattle.block_order.specs.declared.label.Label.TheVariants as label
use Rattle.block_order.specs.declared.program.ControlProgram.{ControlProgram}
use Rattle.block_order.specs.Order.{blocks, main_number, control_at, MayBe}
pub use Rattle.block_order.specs.Moves.{place_behind}
use Rattle.block_order.specs.Moves.{place_of_jump, place_behind_loop, place_of_head, place_of_call, place_of_return, place_of_jump_back}
use Rattle.block_order.specs.Labels.{labels_ahead, list}

-- From a place that stands at a block of this control, one step may lead to the other place. A wait
-- and an end lead nowhere by themselves.
abbrev pub Goes : List ControlProgram → List Frame → Control → List Frame → Type 0
Goes tape place Next to = to ≡ place_behind place
Goes tape place (Goto n) to =
    (to ≡ place_behind place) ⊎ ((number : ℕ) × MayBe n number × (place_of_jump tape number place ≡ Ok to))
Goes tape place (While m) to = (to ≡ place_behind place) ⊎ (place_behind_loop tape place ≡ Ok to)
Goes tape place (Do m) to = to ≡ place_behind place
Goes tape place (EndLoop m) to = place_of_head tape place ≡ Ok to
Goes tape place (Wait code) to = ⊥
Goes tape place End to = ⊥
Goes tape place (Call program repeats) to = place_of_call program repeats place ≡ Ok to
Goes tape place Back to = to ≡ place_of_return place
Goes tape place (BackTo n) to = place_of_jump_back tape n place ≡ Ok to

-- The control of the block at which the place stands, if there is one.
abbrev pub control_of_place : List ControlProgram → List Frame → Option Control
control_of_place tape [] = None
control_of_place tape (f ∷ stack) = control_at (blocks tape f.program) f.block

-- One step leads from the first place to the other; its block is no wait and no end.
abbrev pub Step : List ControlProgram → List Frame → List Frame → Type 0
Step tape place to = (c : Control) × (control_of_place tape place ≡ Some c) × Goes tape place c to

-- A place: each frame but the running one stands on the call of the next one's program, at most
-- eight calls are open, and the lowest frame is the main program's, with no repeat left.
abbrev pub IsPlace : List ControlProgram → List Frame → Type 0
IsPlace tape [] = ⊥
IsPlace tape (f ∷ []) = (f.program ≡ main_number tape) × (f.left ≡ 0)
IsPlace tape (f ∷ g ∷ stack) =
    (repeats : ℕ) × (control_at (blocks tape g.program) g.block ≡ Some (Call f.program repeats)) × (length stack < 8)
    × IsPlace tape (g ∷ stack)

-- The step from the frame f with these callers leaves the labels ahead as they were.
abbrev pub Same : List ControlProgram → Frame → List Frame → List Frame → Type 0
Same tape f stack to = labels_ahead tape to ≡ labels_ahead tape (f ∷ stack)

-- What a step of a block of this control, from the frame f with these callers, does to the labels
-- ahead: nothing, but at an M99 without a number in the main program with no call open. Before that
-- M99 the labels ahead are `Again` alone, after it they are the whole list.
abbrev pub Kept : List ControlProgram → Frame → List Frame → Control → List Frame → Type 0
Kept tape f [] Back to = (labels_ahead tape (f ∷ []) ≡ label.Again ∷ []) × (labels_ahead tape to ≡ list tape)
Kept tape f (g ∷ stack) Back to = Same tape f (g ∷ stack) to
Kept tape f stack Next to = Same tape f stack to
Kept tape f stack (Goto n) to = Same tape f stack to
Kept tape f stack (While m) to = Same tape f stack to
Kept tape f stack (Do m) to = Same tape f stack to
Kept tape f stack (EndLoop m) to = Same tape f stack to
Kept tape f stack (Wait code) to = Same tape f stack to
Kept tape f stack End to = Same tape f stack to
Kept tape f stack (Call program repeats) to = Same tape f stack to
Kept tape f stack (BackTo n) to = Same tape f stack to

-- The law of one path. Each step from a place leads to a place and keeps the labels ahead, but for
-- an M99 of the main program: before it they are `Again` alone, after it they are the whole list.
-- At a wait the labels ahead begin with that wait, which goes when it is passed. At an end they are
-- `End` alone.
pub record KeepsLabels (tape : List ControlProgram) : Type 0 where
  -- A step leads to a place and does to the labels ahead what `Kept` says.
  pub step : (f : Frame) (stack : List Frame) → IsPlace tape (f ∷ stack)
      → (c : Control) → control_at (blocks tape f.program) f.block ≡ Some c
      → (to : List Frame) → Goes tape (f ∷ stack) c to → IsPlace tape to × Kept tape f stack c to
  -- At a wait the labels ahead begin with that wait; after it come those of the place behind it.
  pub wait : (place : List Frame) (code : ℕ) → IsPlace tape place → control_of_place tape place ≡ Some (Wait code)
      → IsPlace tape (place_behind place)
      × (labels_ahead tape place ≡ label.Wait code ∷ labels_ahead tape (place_behind place))
  -- At an end the labels ahead are `End` alone.
  pub ends : (place : List Frame) → IsPlace tape place → control_of_place tape place ≡ Some End → labels_ahead tape place ≡ label.End ∷ []
