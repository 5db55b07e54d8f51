-- What the parts of a block depend on: the modal state, the motion and the moves each on its own
-- words alone. So src/modal.rt, motion.rt and moves.rt hand on these words and no others.
use Rattle.std.proofs.Common.{◌≡◌, ℕ, Bool, List, Option, refl}
use Rattle.code_tables.specs.declared.kind.CodeKind.{CodeKind}
use Rattle.code_tables.specs.declared.kind.CodeKind.TheVariants.{Rapid, Feed, ArcCw, ArcCcw, Thread, CycleTurn, CycleThread, CycleFace, Surface, Spindle, PerMin, PerRev, Inch, Metric, NoseOff, NoseOn, Work, Dwell, Setting, Home, Limit, Machine, MacroCall, Absolute, Incremental, Idle}
use Rattle.code_tables.specs.declared.system.System.{System}
use Rattle.modal_state.specs.View.{ModalView}
use Rattle.nc_number.specs.declared.point.Point.{Point}
use Rattle.offset_store.specs.Table.{OffsetTable}
use Rattle.block_values.specs.Values.{Values}
use Rattle.block_values.specs.Motion.{motion_of}
use Rattle.nc_number.specs.declared.value.Var.TheVariants.{Vacant}
use Rattle.nc_moves.specs.declared.motion.Move.{Move}
use Rattle.block_words.specs.declared.word.FlowWord.{FlowWord}
use Rattle.block_words.specs.Codes.{rows}
use Rattle.block_values.specs.Moves.{all_moves}
use Rattle.block_values.specs.InForce.{modal_after, settings_said, modal_of_rows}
use Rattle.block_values.specs.Drawn.{motion_said, motion_part}

-- what is in force behind a block depends only on its G codes and on F, S and T
pub modal_hangs : (modal : ModalView) (system : System) (words : List FlowWord) (values : Values)
    → modal_after modal system words values
    ≡ modal_of_rows modal (rows system words) (settings_said values.feed values.speed values.tool)
modal_hangs modal system words values = refl

-- the moves of a block depend only on its motion, on S, T and the M code
pub moves_hang : (limits : Bool) (modal : ModalView) (values : Values) (motion : List Move) (code : Option ℕ)
    → all_moves limits modal values motion code
    ≡ all_moves limits modal (settings_said Vacant values.speed values.tool) motion code
moves_hang limits modal values motion code = refl

-- the motion of a block depends only on the words of `motion_part`
pub motion_hangs : (home position : Point) (offsets : OffsetTable) (modal : ModalView) (kind : CodeKind) (has_l : Bool)
    (values : Values)
    → motion_of home position offsets modal kind has_l values
    ≡ motion_of home position offsets modal kind has_l (motion_said (motion_part values))
motion_hangs home position offsets modal Rapid has_l values = refl
motion_hangs home position offsets modal Feed has_l values = refl
motion_hangs home position offsets modal ArcCw has_l values = refl
motion_hangs home position offsets modal ArcCcw has_l values = refl
motion_hangs home position offsets modal Thread has_l values = refl
motion_hangs home position offsets modal CycleTurn has_l values = refl
motion_hangs home position offsets modal CycleThread has_l values = refl
motion_hangs home position offsets modal CycleFace has_l values = refl
motion_hangs home position offsets modal Surface has_l values = refl
motion_hangs home position offsets modal Spindle has_l values = refl
motion_hangs home position offsets modal PerMin has_l values = refl
motion_hangs home position offsets modal PerRev has_l values = refl
motion_hangs home position offsets modal Inch has_l values = refl
motion_hangs home position offsets modal Metric has_l values = refl
motion_hangs home position offsets modal NoseOff has_l values = refl
motion_hangs home position offsets modal NoseOn has_l values = refl
motion_hangs home position offsets modal Work has_l values = refl
motion_hangs home position offsets modal Dwell has_l values = refl
motion_hangs home position offsets modal Setting has_l values = refl
motion_hangs home position offsets modal Home has_l values = refl
motion_hangs home position offsets modal Limit has_l values = refl
motion_hangs home position offsets modal Machine has_l values = refl
motion_hangs home position offsets modal MacroCall has_l values = refl
motion_hangs home position offsets modal Absolute has_l values = refl
motion_hangs home position offsets modal Incremental has_l values = refl
motion_hangs home position offsets modal Idle has_l values = refl
