-- A block has seven moves at most: four of its motion, one of the speed, one of the tool, one of an
-- M code. For the proof of `a_record_makes_seven_moves_at_most` (src/laws.rt). A kind of block with
-- more moves changes the bound here, in that law, and in the laws above that rest on it.
use Rattle.std.proofs.Common.{◌≡◌, ℕ, ◌*◌, ◌-◌, ◌≤◌, ◌==◌, Bool, true, false, List, [], ◌∷◌, ◌++◌, length, map, take, drop, refl, arith, length-append, Option, Some, None, Result, Ok, Err, ℤ}
use Rattle.std.specs.Prelude.{if◌then◌else◌}
use Rattle.std.proofs.lemmas.List.{length-take, length-drop, length-map}
use Rattle.nc_number.specs.Path.{is_same}
use Rattle.nc_number.specs.declared.cause.Cause.{Cause}
use Rattle.nc_number.specs.declared.cause.Cause.TheVariants.{FeedZero}
use Rattle.nc_number.specs.declared.path.Path.{Path}
use Rattle.nc_number.specs.declared.path.Path.TheVariants.{One, Two}
use Rattle.nc_number.specs.declared.point.Point.{Point}
use Rattle.nc_number.specs.declared.value.Var.{Var}
use Rattle.nc_number.specs.declared.value.Var.TheVariants.{Vacant, Is}
use Rattle.nc_number.specs.Arithmetic.{is_zero}
use Rattle.nc_number.specs.Results.{◌>>=◌}
use Rattle.nc_number.specs.Both.{of_path}
use Rattle.nc_moves.specs.declared.alarm.Alarm.{Alarm}
use Rattle.nc_moves.specs.declared.motion.Move.{Move}
use Rattle.nc_outside.specs.declared.lined_move.LinedMove.{LinedMove}
use Rattle.nc_outside.specs.Lined.{lined_move}
use Rattle.nc_moves.specs.declared.motion.Move.TheVariants as move
use Rattle.nc_verify.specs.declared.verified.Verified.{Verified}
use Rattle.code_tables.specs.declared.kind.CodeKind.{CodeKind}
use Rattle.code_tables.specs.declared.kind.CodeKind.TheVariants as kind
use Rattle.code_tables.specs.declared.system.System.{System}
use Rattle.modal_state.specs.View.{ModalView}
use Rattle.motion_track.specs.declared.block.BlockMotion.{BlockMotion}
use Rattle.motion_track.specs.declared.fault.MotionFault.{MotionFault}
use Rattle.motion_track.specs.Block.{names_axis, is_move_due, target_in, arc_in, moves_due, moves_of as track_of}
use Rattle.motion_track.specs.Faults.{fault}
use Rattle.turn_cycles.specs.declared.pass.CyclePass.{CyclePass}
use Rattle.turn_cycles.specs.declared.rectangle.CycleKind.{CycleKind}
use Rattle.turn_cycles.specs.declared.rectangle.CycleKind.TheVariants.{G90, G92, G94}
use Rattle.turn_cycles.specs.Cycles.{cycle_moves}
use Rattle.turn_cycles.specs.End.{cycle_end_of}
use Rattle.turn_cycles.specs.Pass.{cycle_kind_of, pass_to_end, pass_of}
use Rattle.offset_store.specs.declared.fault.OffsetFault.{OffsetFault}
use Rattle.offset_store.specs.declared.slot.Slot.{Slot}
use Rattle.offset_store.specs.Table.{OffsetTable}
use Rattle.block_order.specs.declared.control.Control.{Control}
use Rattle.block_order.specs.declared.control.Control.TheVariants as control
use Rattle.block_order.specs.declared.program.ControlProgram.{ControlProgram}
use Rattle.block_words.specs.declared.word.FlowWord.{FlowWord}
use Rattle.block_forms.specs.declared.block.FlowBlock.{FlowBlock}
use Rattle.block_forms.specs.declared.body.FlowBody.{FlowBody}
use Rattle.block_forms.specs.declared.body.FlowBody.TheVariants.{Words, Statement}
use Rattle.block_words.specs.declared.purpose.Purpose.{Purpose}
use Rattle.block_words.specs.declared.purpose.Purpose.TheVariants.{MacroCall}
use Rattle.block_words.specs.Codes.{gives, is_limit, m_code}
use Rattle.tape_flow.specs.declared.flow.Flow.{Flow}
use Rattle.path_state.specs.View.{Fixed, PathView}
use Rattle.block_values.specs.Outcomes.{Outcome, Gives, Needs, Alarms}
use Rattle.block_values.specs.Values.{Values, nothing_said}
use Rattle.path_state.specs.Said.{sense_of, words_taken}
use Rattle.block_values.specs.Moves.{speed_moves, tool_moves, is_auxiliary, auxiliary_moves, all_moves}
use Rattle.block_values.specs.Motion.{Motion, motion_number, offset_number, setting_of, set_motion, passed_motion, motion_of_track, cut_motion, block_motion, turret_motion, unless_incremental, motion_of}
use Rattle.path_state.specs.Standing.{Standing, standing_of, standing_behind}
use Rattle.path_state.specs.Statements.{After}
use Rattle.block_values.specs.InForce.{modal_after}
use Rattle.path_state.specs.Effect.{Effect, Need, Done, AtWait, AtEnd, Moved, after_motion, motion_with, effect_of_words, done_by, effect_of_control, of_moved, of_values, of_arguments, of_purpose, block_of_words, of_after, effect_of_body, effect_of_block, block_at, effect_of}
use Rattle.path_state.specs.Effect as effect
use Rattle.run_records.specs.Entries.{Entry, edit_of}
use Rattle.run_records.specs.declared.edit.Edit.{Edit}
use Rattle.two_path.specs.Machine.{MachineView, own_first}
use Rattle.two_path.specs.Turns.{TurnResult, blocks_of, tapes_of, result_at_wait, result_by, unless_idle, block_turn, own_turn}
use Rattle.two_path.specs.Histories.{with_reads, behind_entry, fold}
use Rattle.two_path.specs.Again.{turn_by, turn_of_entry}
use Rattle.run_table.specs.Kept.{tapes_in, opening_of}
use Rattle.two_path.specs.Made.{moves_made_in}
use Rattle.nc_outside.specs.Lined.{lined_moves}
use Rattle.two_path.specs.declared.turn.Turn.{Turn}
use Rattle.two_path.specs.declared.turn.Turn.TheVariants as turn
use Rattle.run_table.specs.Made.{joined, shown_from, moves_made, told_from, told_made}
use Rattle.run_table.specs.Draining.{told_in_turn}
use Rattle.nc_outside.specs.declared.got.Got.{Got}
use Rattle.nc_outside.specs.declared.got.Got.TheVariants as got

-- the answer of a track: two moves at most, or a fault
abbrev FewTracked : {E : Type 0} → Result (List Move) E → Type 0
FewTracked (Ok moves) = length moves ≤ 2
FewTracked (Err fault) = Unit {0}

-- the answer of a pass of a cycle: four moves at most, or a fault
abbrev FewPassed : {E : Type 0} → Result CyclePass E → Type 0
FewPassed (Ok pass) = length pass.moves ≤ 4
FewPassed (Err fault) = Unit {0}

-- the answer of a motion: four moves at most, or a fault
abbrev FewMotion : {E : Type 0} → Result Motion E → Type 0
FewMotion (Ok motion) = length motion.moves ≤ 4
FewMotion (Err fault) = Unit {0}

-- a step that may fail and then a track have two moves at most, if each track has
then_tracked : {A E : Type 0} (r : Result A E) (f : A → Result (List Move) E) → ((a : A) → FewTracked (f a)) → FewTracked (r >>= f)
then_tracked (Ok a) f few = few a
then_tracked (Err fault) f few = tt

-- a step that may fail and then a pass have four moves at most, if each pass has
then_passed : {A E : Type 0} (r : Result A E) (f : A → Result CyclePass E) → ((a : A) → FewPassed (f a)) → FewPassed (r >>= f)
then_passed (Ok a) f few = few a
then_passed (Err fault) f few = tt

-- a track of one cut has two moves at most
one_cut : (r : Result Move MotionFault) → FewTracked (r >>= λ one. Ok (one ∷ []))
one_cut (Ok one) = omega arith
one_cut (Err fault) = tt

-- a track of one rapid has two moves at most
one_rapid : (to : Result Point MotionFault) → FewTracked (to >>= λ at. Ok (move.Rapid at ∷ []))
one_rapid (Ok at) = omega arith
one_rapid (Err fault) = tt

-- the moves that are due to a code are two at most
due_few : (k : CodeKind) (block : BlockMotion) → FewTracked (moves_due k block)
due_few kind.Rapid block = one_rapid (target_in block)
due_few kind.Feed block = then_tracked (target_in block) _ (λ to. one_cut _)
due_few kind.ArcCw block = one_cut (arc_in true block)
due_few kind.ArcCcw block = one_cut (arc_in false block)
due_few kind.Thread block = then_tracked (target_in block) _ (λ to. one_cut _)
due_few kind.Home block = then_tracked (target_in block) _ (λ between. omega arith)
due_few kind.Machine block = one_rapid _
due_few _ block = omega arith

-- the track of a code has two moves at most
track_few : (k : CodeKind) (block : BlockMotion) → FewTracked (track_of k block)
track_few k block = go (is_move_due k block)
  where
    go : (b : Bool) → FewTracked (if b then moves_due k block else Ok [])
    go true = due_few k block
    go false = omega arith

-- a pass of a cycle (G90, G92, G94) has four moves at most
cycle_few : (cycle : CycleKind) (start end : Point) (feed : ℤ) (per_rev : Bool) → length (cycle_moves cycle start end feed per_rev) ≤ 4
cycle_few G90 start end feed per_rev = omega arith
cycle_few G92 start end feed per_rev = omega arith
cycle_few G94 start end feed per_rev = omega arith

-- the pass that a block of a cycle makes has four moves at most
pass_few : (cycle : CycleKind) (kept : Option Point) (block : BlockMotion) → FewPassed (pass_of cycle kept block)
pass_few cycle kept block = go (names_axis block)
  where
    cut : (end : Point) (b : Bool) → FewPassed {E = MotionFault} ((if b then Err (fault FeedZero) else Ok (cycle_moves cycle block.start end block.feed block.per_rev)) >>= λ moves. Ok (record { moves = moves; kept = Some end }))
    cut end true = tt
    cut end false = cycle_few cycle block.start end block.feed block.per_rev

    to_end : FewPassed (pass_to_end cycle kept block)
    to_end = then_passed (cycle_end_of block.start kept block.shift block.x block.z) _ (λ end. cut end (is_zero block.feed))

    go : (b : Bool) → FewPassed (if b then pass_to_end cycle kept block else Ok (record { moves = []; kept = kept }))
    go true = to_end
    go false = omega arith

-- the motion of a pass has four moves at most
passed_few : (r : Result CyclePass MotionFault) → FewPassed r → FewMotion (passed_motion r)
passed_few (Ok pass) few = few
passed_few (Err fault) few = tt

-- the motion of a track has four moves at most
tracked_few : (kept : Option Point) (r : Result (List Move) MotionFault) → FewTracked r → FewMotion (motion_of_track kept r)
tracked_few kept (Ok moves) few = omega arith
tracked_few kept (Err fault) few = tt

-- a motion that cuts has four moves at most
cut_few : (cycle : Option CycleKind) (k : CodeKind) (kept : Option Point) (block : BlockMotion) → FewMotion (cut_motion cycle k kept block)
cut_few (Some cycle) k kept block = passed_few (pass_of cycle kept block) (pass_few cycle kept block)
cut_few None k kept block = tracked_few kept (track_of k block) (track_few k block)

-- a block that sets an offset (G10) has four moves at most in its motion
set_few : (kept : Option Point) (r : Result (Slot × Point) OffsetFault) → FewMotion (offset_number (set_motion kept r))
set_few kept (Ok set) = omega arith
set_few kept (Err fault) = tt

-- a motion whose fault is given as the number of an alarm has four moves at most
numbered_few : (r : Result Motion MotionFault) → FewMotion r → FewMotion (motion_number r)
numbered_few (Ok motion) few = few
numbered_few (Err fault) few = tt

-- a motion of the turret by its code has four moves at most
turret_few : (home position : Point) (offsets : OffsetTable) (modal : ModalView) (k : CodeKind) (values : Values) → FewMotion (turret_motion home position offsets modal k values)
turret_few home position offsets modal k values = numbered_few _ (cut_few (cycle_kind_of k) k modal.cycle (block_motion home position offsets modal values))

-- a motion that may be in increments has four moves at most
incremental_few : (incremental : Bool) (motion : Result Motion ℕ) → FewMotion motion → FewMotion (unless_incremental incremental motion)
incremental_few true motion few = tt
incremental_few false motion few = few

-- the motion of any block has four moves at most
motion_few : (home position : Point) (offsets : OffsetTable) (modal : ModalView) (k : CodeKind) (has_l : Bool) (values : Values) → FewMotion (motion_of home position offsets modal k has_l values)
motion_few home position offsets modal kind.Dwell has_l values = omega arith
motion_few home position offsets modal kind.Setting has_l values = set_few modal.cycle (setting_of offsets modal has_l values)
motion_few home position offsets modal kind.Machine has_l values = incremental_few modal.incremental _ (turret_few home position offsets modal kind.Machine values)
motion_few home position offsets modal k has_l values = turret_few home position offsets modal k values

-- the speed of a block makes one move at most
speed_few : (limits : Bool) (modal : ModalView) (speed : Var) → length (speed_moves limits modal speed) ≤ 1
speed_few limits modal Vacant = omega arith
speed_few true modal (Is s) = omega arith
speed_few false modal (Is s) = omega arith

-- the tool of a block makes one move at most
tool_few : (tool : Option ℕ) → length (tool_moves tool) ≤ 1
tool_few None = omega arith
tool_few (Some t) = omega arith

-- the M code of a block makes one move at most
auxiliary_few : (code : Option ℕ) → length (auxiliary_moves code) ≤ 1
auxiliary_few None = omega arith
auxiliary_few (Some m) = go (is_auxiliary m)
  where
    go : (b : Bool) → length (if b then move.Aux m ∷ [] else []) ≤ 1
    go true = omega arith
    go false = omega arith

-- the moves of a block, of its motion, speed, tool and M code, are seven at most
all_few : (limits : Bool) (modal : ModalView) (values : Values) (motion : List Move) (code : Option ℕ) → length motion ≤ 4
    → length (all_moves limits modal values motion code) ≤ 7
all_few limits modal values motion code few =
    let speed = speed_moves limits modal values.speed in
    let tool = tool_moves values.tool in
    let auxiliary = auxiliary_moves code in
    omega (
      arith,
      few,
      speed_few limits modal values.speed,
      tool_few values.tool,
      auxiliary_few code,
      length-append speed (tool ++ (motion ++ auxiliary)),
      length-append tool (motion ++ auxiliary),
      length-append motion auxiliary,
    )

-- the answer of a block's words: seven moves at most, or the number of an alarm
abbrev FewMoved : Result Moved ℕ → Type 0
FewMoved (Ok moved) = length moved.moves ≤ 7
FewMoved (Err number) = Unit {0}

-- what a block comes to has seven moves at most
abbrev FewMoves : Effect → Type 0
FewMoves (Done after write moves) = length moves ≤ 7
FewMoves (AtEnd after moves) = length moves ≤ 7
FewMoves _ = Unit {0}

-- the words of a block with this motion have seven moves at most
after_few : (path : PathView) (modal : ModalView) (system : System) (words : List FlowWord) (values : Values) (motion : Result Motion ℕ) → FewMotion motion
    → FewMoved (after_motion path modal system words values motion)
after_few path modal system words values (Ok motion) few = all_few (gives system is_limit words) modal values motion.moves (m_code words) few
after_few path modal system words values (Err number) few = tt

-- the words of a block with this modal state have seven moves at most
with_few : (fixed : Fixed) (path : PathView) (system : System) (words : List FlowWord) (values : Values) (modal : Result ModalView ℕ) → FewMoved (motion_with fixed path system words values modal)
with_few fixed path system words values (Ok modal) = after_few path modal system words values _ (motion_few fixed.home path.position path.offsets modal _ _ values)
with_few fixed path system words values (Err number) = tt

-- a block at any state of the path
module _ (tape : List ControlProgram) (fixed : Fixed) (path : PathView) where
  -- a block that goes on to this standing has seven moves at most
  done_few : (moved : Moved) (to : Result Standing Cause) → length moved.moves ≤ 7 → FewMoves (done_by moved to)
  done_few moved (Ok to) few = few
  done_few moved (Err cause) few = tt

  -- a block with this control has seven moves at most
  controlled_few : (moved : Moved) (arguments : Option (List Var)) (c : Control) → length moved.moves ≤ 7 → FewMoves (effect_of_control tape moved arguments c)
  controlled_few moved arguments control.End few = few
  controlled_few moved arguments c few = done_few moved (standing_behind tape (standing_of moved.path) arguments c) few

  -- a block whose words were acted on has seven moves at most
  moved_few : (c : Control) (moved : Result Moved ℕ) → FewMoved moved → FewMoves (of_moved tape c moved)
  moved_few c (Ok moved) few = controlled_few moved None c few
  moved_few c (Err number) few = tt

  -- a block whose words have their values, or need a variable, has seven moves at most
  values_few : (system : System) (words : List FlowWord) (c : Control) (values : Outcome Values) → FewMoves (of_values tape fixed path system words c values)
  values_few system words c (Gives values left) = moved_few c (effect_of_words fixed path system words values) (with_few fixed path system words values (modal_after path.modal system words values))
  values_few system words c (Needs variable) = tt
  values_few system words c (Alarms number value) = tt

  -- a call (G65) has seven moves at most: it has none
  arguments_few : (c : Control) (arguments : Outcome (List Var)) → FewMoves (of_arguments tape path c arguments)
  arguments_few c (Gives arguments left) = controlled_few (record { path = path; moves = [] }) (Some arguments) c (omega arith)
  arguments_few c (Needs variable) = tt
  arguments_few c (Alarms number value) = tt

  -- a statement has seven moves at most: it has none
  statement_few : (after : Outcome After) → FewMoves (of_after after)
  statement_few (Gives after left) = omega arith
  statement_few (Needs variable) = tt
  statement_few (Alarms number value) = tt

  -- a block of words has seven moves at most, by its purpose
  purpose_few : (purpose : Purpose) (system : System) (words : List FlowWord) (c : Control) (reads : List Var) → FewMoves (of_purpose tape fixed path purpose system words c reads)
  purpose_few MacroCall system words c reads = arguments_few c _
  purpose_few purpose system words c reads = values_few system words c (words_taken fixed path (sense_of path purpose system words) words nothing_said reads)

  -- a block of words has seven moves at most, by its control
  words_few : (purpose : Purpose) (system : System) (words : List FlowWord) (c : Control) (reads : List Var) → FewMoves (block_of_words tape fixed path purpose system words c reads)
  words_few purpose system words (control.Wait code) reads = tt
  words_few purpose system words c reads = purpose_few purpose system words c reads

  -- a block has seven moves at most, by its body
  body_few : (body : FlowBody) (c : Control) (reads : List Var) → FewMoves (effect_of_body tape fixed path body c reads)
  body_few (Words words) c reads = words_few words.purpose words.dialect.system words.words c reads
  body_few (Statement statement) c reads = statement_few _

-- a place has seven moves at most, whether a block was found there or none
found_few : (tape : List ControlProgram) (path : PathView) (found : Option FlowBlock) (reads : List Var) → FewMoves (effect_of_block tape path found reads)
found_few tape path None reads = tt
found_few tape path (Some block) reads = body_few tape path.fixed path block.body block.control reads

-- each block has seven moves at most, at every state
block_few : (flow : Flow) (path : PathView) (reads : List Var) → FewMoves (effect_of flow path reads)
block_few flow path reads = found_few flow.order path (block_at flow.programs path.place) reads

-- seven moves at most are seven at most with their lines
lined_few : (line : ℕ) (moves : List Move) → length moves ≤ 7 → length (map (lined_move line) moves) ≤ 7
lined_few line moves few = omega (arith, few, length-map moves (lined_move line))

-- a turn at a wait has seven moves at most
wait_few : (path : Path) (line : ℕ) (m : MachineView) (code : ℕ) (there : Option ℕ) → length (moves_made_in (result_at_wait path line m code there).turn) ≤ 7
wait_few path line m code None = omega arith
wait_few path line m code (Some there) = go (code == there) refl
  where
    go : (b : Bool) → (code == there) ≡ b → length (moves_made_in (result_at_wait path line m code (Some there)).turn) ≤ 7
    go true e = rw e (omega arith)
    go false e = rw e (omega arith)

-- a turn by what its block comes to has seven moves at most
result_few : (path : Path) (line : ℕ) (m : MachineView) (e : Effect) → FewMoves e → length (moves_made_in (result_by path line m e).turn) ≤ 7
result_few path line m (Need variable) few = omega arith
result_few path line m (Done after write moves) few = lined_few line moves few
result_few path line m (AtWait code) few = wait_few path line m code m.paths.two.waiting
result_few path line m (AtEnd after moves) few = lined_few line moves few
result_few path line m (effect.Alarm number value) few = omega arith

-- a turn that may do nothing has seven moves at most
unless_few : (m : MachineView) (a : Option Alarm) (f : Bool) (w : Option ℕ) (rest : TurnResult) → length (moves_made_in rest.turn) ≤ 7 → length (moves_made_in (unless_idle m a f w rest).turn) ≤ 7
unless_few m (Some alarm) f w rest few = omega arith
unless_few m None true w rest few = omega arith
unless_few m None false (Some code) rest few = omega arith
unless_few m None false None rest few = few

-- a turn of the path whose part stands first has seven moves at most
turn_few : (flow : Flow) (path : Path) (m : MachineView) → length (moves_made_in (own_turn (blocks_of flow) path m).turn) ≤ 7
turn_few flow path m =
    unless_few m m.alarm m.paths.one.finished m.paths.one.waiting (block_turn (blocks_of flow) path m)
    (result_few path ((blocks_of flow).line m.paths.one.path.place) m (effect_of flow m.paths.one.path m.paths.one.values) (block_few flow m.paths.one.path m.paths.one.values))

-- a turn of either path has seven moves at most
either_few : (left right : Flow) (path own : Path) (m : MachineView) → length (moves_made_in (own_turn (of_path (tapes_of left right) path) own m).turn) ≤ 7
either_few left right One own m = turn_few left own m
either_few left right Two own m = turn_few right own m

-- a record that is done again has seven moves at most, whether it is an edit or of a turn with
-- these stamps
again_few : (left right : Flow) (path : Path) (edit : Option Edit) (stamps : List ℕ) (m : MachineView)
    → length (moves_made_in (turn_by (of_path (tapes_of left right) path) path edit stamps m)) ≤ 7
again_few left right path None stamps m = either_few left right path path (with_reads (of_path (tapes_of left right) path) stamps m)
again_few left right path (Some edit) stamps m = omega arith

-- the records of a history have seven moves each at most
records_few : (left right : Flow) (path : Path) (entries : List Entry) (m : MachineView) → length (joined (shown_from (tapes_of left right) m path entries)) ≤ 7 * length entries
records_few left right path [] m = omega arith
records_few left right path (e ∷ entries) m =
    go (is_same path e.path) (moves_made_in (turn_of_entry (tapes_of left right) e m))
    (again_few left right e.path (edit_of e.kind) e.stamps (own_first e.path m))
    (records_few left right path entries (behind_entry (tapes_of left right) e m))
  where
    go : (b : Bool) (moves : List LinedMove) → length moves ≤ 7 → length (joined (shown_from (tapes_of left right) (behind_entry (tapes_of left right) e m) path entries)) ≤ 7 * length entries
        → length (joined ((if b then moves ∷ [] else []) ++ shown_from (tapes_of left right) (behind_entry (tapes_of left right) e m) path entries)) ≤ 7 * length (e ∷ entries)
    go true moves few rest = omega (arith, few, rest, length-append moves (joined (shown_from (tapes_of left right) (behind_entry (tapes_of left right) e m) path entries)))
    go false moves few rest = omega (arith, rest)

-- a path's moves of these records are seven a record at most
pub made_few : (pair : Verified) (path : Path) (from upto : ℕ) (history : List Entry) → length (moves_made pair path from upto history) ≤ 7 * (upto - from)
made_few pair path from upto history =
    let part = drop from (take upto history) in
    let few = records_few pair.left pair.right path part (fold (tapes_in pair) (opening_of pair) (take from history)) in
    omega (arith, few, length-drop from (take upto history), length-take upto history)

-- a turn that makes seven moves at most tells seven things at most
turn_tells : (t : Turn) → length (moves_made_in t) ≤ 7 → length (told_in_turn t) ≤ 7
turn_tells (turn.Read variable stamp) few = omega arith
turn_tells (turn.Did moves) few = omega (arith, few, length-map (lined_moves moves) (λ m. got.Moved m))
turn_tells (turn.Arrived code) few = omega arith
turn_tells (turn.Met code) few = omega arith
turn_tells (turn.Ended moves) few = omega (arith, few, length-map (lined_moves moves) (λ m. got.Moved m))
turn_tells (turn.Waiting code) few = omega arith
turn_tells turn.Finished few = omega arith
turn_tells (turn.Alarm alarm) few = omega arith
turn_tells (turn.Halted alarm) few = omega arith
turn_tells turn.Edited few = omega arith

-- the records of a history tell seven things each at most
records_tell : (left right : Flow) (path : Path) (entries : List Entry) (m : MachineView) → length (joined (told_from (tapes_of left right) m path entries)) ≤ 7 * length entries
records_tell left right path [] m = omega arith
records_tell left right path (e ∷ entries) m =
    go (is_same path e.path) (told_in_turn (turn_of_entry (tapes_of left right) e m))
    (turn_tells (turn_of_entry (tapes_of left right) e m) (again_few left right e.path (edit_of e.kind) e.stamps (own_first e.path m)))
    (records_tell left right path entries (behind_entry (tapes_of left right) e m))
  where
    go : (b : Bool) (told : List Got) → length told ≤ 7 → length (joined (told_from (tapes_of left right) (behind_entry (tapes_of left right) e m) path entries)) ≤ 7 * length entries
        → length (joined ((if b then told ∷ [] else []) ++ told_from (tapes_of left right) (behind_entry (tapes_of left right) e m) path entries)) ≤ 7 * length (e ∷ entries)
    go true told few rest = omega (arith, few, rest, length-append told (joined (told_from (tapes_of left right) (behind_entry (tapes_of left right) e m) path entries)))
    go false told few rest = omega (arith, rest)

-- what a path's records tell is seven things a record at most
pub told_few : (pair : Verified) (path : Path) (from upto : ℕ) (history : List Entry) → length (told_made pair path from upto history) ≤ 7 * (upto - from)
told_few pair path from upto history =
    let part = drop from (take upto history) in
    let few = records_tell pair.left pair.right path part (fold (tapes_in pair) (opening_of pair) (take from history)) in
    omega (arith, few, length-drop from (take upto history), length-take upto history)
