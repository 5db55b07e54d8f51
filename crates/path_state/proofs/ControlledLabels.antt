-- A block that is done keeps the labels ahead of its path, but for an M99 of the main program with
-- no call open, by the law of block_order on one step: for the laws `each_block_keeps_the_labels`
-- and `the_flow_of_an_accepted_tape_is_unforked` (src/control_law.rt). An order of blocks is
-- *unforked* (`IsUnforked`) if nothing leads from one stretch to another and no chain of nine calls
-- of loud programs begins in the main program; then all its runs come to one list of labels.
use Rattle.std.proofs.Common.{List, map, [], ◌∷◌, Some, sym, subst}
use Rattle.nc_number.specs.declared.value.Var.{Var}
use Rattle.block_order.specs.declared.control.Control.{Control}
use Rattle.block_order.specs.declared.control.Control.TheVariants.{Back}
use Rattle.block_order.specs.declared.frame.Frame.{Frame}
use Rattle.block_order.specs.declared.program.ControlProgram.{ControlProgram}
use Rattle.block_order.specs.Faults.{IsSound}
use Rattle.block_order.specs.Labels.{IsUnforked}
use Rattle.block_order.specs.Steps.{Step, control_of_place, IsPlace, Kept, KeepsLabels}
use Rattle.block_order.proofs.Faultless.{faultless_unforked}
use Rattle.block_order.proofs.OnePath.{keeps_labels}
use Rattle.block_words.specs.declared.dialect.Dialect.{Dialect}
use Rattle.nc_text.specs.declared.tape.Program.{Program}
use Rattle.tape_flow.specs.Exact.{IsAccepted}
use Rattle.tape_flow.specs.Forms.{program_form}
use Rattle.tape_flow.specs.declared.flow.Flow.{Flow}
use Rattle.path_state.specs.View.{PathView}
use Rattle.path_state.specs.Effect.{Effect, Need, Done, AtWait, AtEnd, Alarm, effect_of}
use Rattle.path_state.specs.Controlled.{GoesAsOrdered}
use Rattle.path_state.specs.Ahead.{AheadOf, KeepsAhead}
use Rattle.path_state.proofs.ControlledFlow.{steady}

-- the law of one step, which block_order has, in the words of `AheadOf`
kept-ahead : (tape : List ControlProgram) (f : Frame) (stack : List Frame) (c : Control)
    (to : List Frame)
    → Kept tape f stack c to → AheadOf tape (f ∷ stack) (Some c) to
kept-ahead tape f [] Back to kept = kept
kept-ahead tape f (g ∷ stack) Back to kept = kept
kept-ahead tape f [] _ to kept = kept
kept-ahead tape f (g ∷ stack) _ to kept = kept

-- one step leads to a place again, and does to the labels ahead what `AheadOf` says
step-ahead : (tape : List ControlProgram) → KeepsLabels tape → (place to : List Frame)
    → IsPlace tape place → Step tape place to
    → IsPlace tape to × AheadOf tape place (control_of_place tape place) to
step-ahead tape law [] to here step = absurd here
step-ahead tape law (f ∷ stack) to here (c, stands, goes) =
    let kept = law.step f stack here c stands to goes in
    (kept.0, subst (λ o. AheadOf tape (f ∷ stack) o to) (sym stands) (kept-ahead tape f stack c to kept.1))

-- an effect that goes as ordered does to the labels ahead what `KeepsAhead` says
effect-ahead : (tape : List ControlProgram) → KeepsLabels tape → (path : PathView)
    → IsPlace tape path.place → (effect : Effect)
    → GoesAsOrdered tape path effect → KeepsAhead tape path effect
effect-ahead tape law path here (Need variable) goes = tt
effect-ahead tape law path here (Done after write moves) goes =
    step-ahead tape law path.place after.place here goes
effect-ahead tape law path here (AtWait code) goes = law.wait path.place code here goes
effect-ahead tape law path here (AtEnd after moves) goes = (goes.1, law.ends path.place here goes.0)
effect-ahead tape law path here (Alarm number value) goes = tt

-- each block of a flow whose order is unforked does to the labels ahead of its path what
-- `KeepsAhead` says
pub labels_kept : (flow : Flow) → IsUnforked flow.order → (path : PathView) (reads : List Var)
    → IsPlace flow.order path.place
    → KeepsAhead flow.order path (effect_of flow path reads)
labels_kept flow unforked path reads here =
    effect-ahead flow.order (keeps_labels flow.order unforked) path here (effect_of flow path reads)
    (steady flow path reads).goes

-- the order of an accepted tape's flow is sound
pub accepted_sound : (flow : Flow) (dialect : Dialect) (tape : List Program)
    → IsAccepted dialect tape (map program_form flow.programs) → IsSound flow.order
accepted_sound flow dialect tape accepted = rw (flow.agrees) (accepted.sound)

-- an accepted tape's flow is unforked
pub accepted_unforked : (flow : Flow) (dialect : Dialect) (tape : List Program)
    → IsAccepted dialect tape (map program_form flow.programs) → IsUnforked flow.order
accepted_unforked flow dialect tape accepted =
    faultless_unforked flow.order (accepted_sound flow dialect tape accepted).waits
