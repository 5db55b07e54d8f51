-- What the laws of one path's control say (src/control_law.rt): a block leads to a place that the
-- order of blocks allows, keeps what is fixed for its path, and asks for shared variables alone. A
-- place is the open programs of a path, each with its block.
use Rattle.std.specs.Prelude.{◌≡◌, ◌<◌, true, List, length, Some}
use Rattle.nc_number.specs.declared.value.Var.{Var}
use Rattle.block_order.specs.declared.control.Control.TheVariants.{Wait, End}
use Rattle.block_order.specs.declared.program.ControlProgram.{ControlProgram}
use Rattle.block_order.specs.Steps.{Step, control_of_place}
use Rattle.tape_flow.specs.declared.flow.Flow.{Flow}
use Rattle.path_state.specs.View.{PathView}
use Rattle.path_state.specs.Looks.{is_shared}
use Rattle.path_state.specs.Effect.{Effect, Need, Done, AtWait, AtEnd, Alarm, effect_of}

-- the effect goes as the order of blocks allows: a block that is done leads to a place that one of
-- its moves gives; a path is at a wait, or at an end, only if it stands on one
abbrev pub GoesAsOrdered : List ControlProgram → PathView → Effect → Type 0
GoesAsOrdered tape path (Need variable) = Unit {0}
GoesAsOrdered tape path (Done after write moves) = Step tape path.place after.place
GoesAsOrdered tape path (AtWait code) = control_of_place tape path.place ≡ Some (Wait code)
GoesAsOrdered tape path (AtEnd after moves) = (control_of_place tape path.place ≡ Some End) × (after.place ≡ path.place)
GoesAsOrdered tape path (Alarm number value) = Unit {0}

-- each block of the flow goes as its order allows, at every state of a path, also at one that no
-- run comes to, and whatever was read
abbrev pub IsControlled : Flow → Type 0
IsControlled flow = (path : PathView) (reads : List Var) → GoesAsOrdered flow.order path (effect_of flow path reads)

-- the effect leaves what is fixed for the path: reference position and shared ranges
abbrev pub KeepsFixed : PathView → Effect → Type 0
KeepsFixed path (Need variable) = Unit {0}
KeepsFixed path (Done after write moves) = after.fixed ≡ path.fixed
KeepsFixed path (AtWait code) = Unit {0}
KeepsFixed path (AtEnd after moves) = after.fixed ≡ path.fixed
KeepsFixed path (Alarm number value) = Unit {0}

-- if the effect is a need, the variable is shared, and fewer than 32 values were read so far
abbrev pub AsksForShared : PathView → List Var → Effect → Type 0
AsksForShared path reads (Need variable) = (is_shared path.fixed variable ≡ true) × (length reads < 32)
AsksForShared path reads (Done after write moves) = Unit {0}
AsksForShared path reads (AtWait code) = Unit {0}
AsksForShared path reads (AtEnd after moves) = Unit {0}
AsksForShared path reads (Alarm number value) = Unit {0}
