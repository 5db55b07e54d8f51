-- What a block does to the labels ahead of its path, which are the waits and the end that it still
-- comes to: `block_order` defines them (`labels_ahead`).
-- For the law `each_block_keeps_the_labels` (src/control_law.rt) alone.
use Rattle.std.specs.Prelude.{◌≡◌, List, [], ◌∷◌, Option, Some}
use Rattle.block_order.specs.declared.control.Control.{Control}
use Rattle.block_order.specs.declared.control.Control.TheVariants.{Back}
use Rattle.block_order.specs.declared.frame.Frame.{Frame}
use Rattle.block_order.specs.declared.label.Label.TheVariants as label
use Rattle.block_order.specs.declared.program.ControlProgram.{ControlProgram}
use Rattle.block_order.specs.Labels.{labels_ahead, list}
use Rattle.block_order.specs.Steps.{IsPlace, place_behind, control_of_place}
use Rattle.path_state.specs.View.{PathView}
use Rattle.path_state.specs.Effect.{Effect, Need, Done, AtWait, AtEnd, Alarm}

-- from a place to the next one the labels ahead stay; but an M99 of the main program with no call
-- open, at which `Again` alone is ahead, leads to where they begin anew
abbrev pub AheadOf : List ControlProgram → List Frame → Option Control → List Frame → Type 0
AheadOf tape (f ∷ []) (Some Back) to =
    (labels_ahead tape (f ∷ []) ≡ label.Again ∷ []) × (labels_ahead tape to ≡ list tape)
AheadOf tape place control to = labels_ahead tape to ≡ labels_ahead tape place

-- what an effect does to the labels ahead: a block that is done keeps them; at a wait they begin
-- with it, and passing it takes it away; at an end they are `End` alone; a need and an alarm say
-- nothing
abbrev pub KeepsAhead : List ControlProgram → PathView → Effect → Type 0
KeepsAhead tape path (Need variable) = Unit {0}
KeepsAhead tape path (Done after write moves) =
    IsPlace tape after.place × AheadOf tape path.place (control_of_place tape path.place) after.place
KeepsAhead tape path (AtWait code) =
    IsPlace tape (place_behind path.place) × (labels_ahead tape path.place ≡ label.Wait code ∷ labels_ahead tape (place_behind path.place))
KeepsAhead tape path (AtEnd after moves) = (after.place ≡ path.place) × (labels_ahead tape path.place ≡ label.End ∷ [])
KeepsAhead tape path (Alarm number value) = Unit {0}
