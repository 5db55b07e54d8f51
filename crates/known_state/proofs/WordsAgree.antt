-- What is known behind a block of words is so of the path behind it.
use Rattle.std.proofs.Common.{◌≡◌, ℕ, Bool, true, false, List, [], codes, Option, Some, None, Result, Ok, Err, refl, sym, subst, if◌then◌else◌}
use Rattle.nc_number.specs.declared.cause.Cause.{Cause}
use Rattle.nc_number.specs.declared.point.Point.{Point}
use Rattle.nc_number.specs.declared.axis.Axis.{Axis}
use Rattle.nc_number.specs.declared.value.Var.{Var}
use Rattle.code_tables.specs.declared.kind.CodeKind.{CodeKind}
use Rattle.code_tables.specs.declared.kind.CodeKind.TheVariants as kind
use Rattle.code_tables.specs.declared.system.System.{System}
use Rattle.nc_moves.specs.declared.motion.Move.{Move}
use Rattle.local_levels.specs.Stack.{all_vacant}
use Rattle.modal_state.specs.declared.fault.ModalFault.{ModalFault}
use Rattle.modal_state.specs.View.{ModalView}
use Rattle.modal_state.specs.Words.{tool_fault}
use Rattle.motion_track.specs.declared.block.BlockMotion.{BlockMotion}
use Rattle.motion_track.specs.declared.fault.MotionFault.{MotionFault}
use Rattle.motion_track.specs.Block.{names_axis, is_move_due, moves_of}
use Rattle.turn_cycles.specs.declared.rectangle.CycleKind.{CycleKind}
use Rattle.turn_cycles.specs.declared.rectangle.CycleKind.TheVariants.{G90, G92, G94}
use Rattle.turn_cycles.specs.Cycles.{cycle_moves, cycle_of}
use Rattle.turn_cycles.specs.End.{end_point}
use Rattle.motion_track.specs.Faults.{fault}
use Rattle.nc_number.specs.Results.{◌>>=◌}
use Rattle.nc_number.specs.Position.{is_position}
use Rattle.nc_number.specs.Arithmetic.{is_zero}
use Rattle.nc_number.specs.declared.cause.Cause.TheVariants.{FeedZero, PositionRange}
use Rattle.turn_cycles.specs.Pass.{pass_to_end, pass_of}
use Rattle.offset_store.specs.Table.{OffsetTable}
use Rattle.block_order.specs.declared.control.Control.{Control}
use Rattle.block_order.specs.declared.control.Control.TheVariants as control
use Rattle.block_order.specs.declared.program.ControlProgram.{ControlProgram}
use Rattle.block_words.specs.declared.word.FlowWord.{FlowWord}
use Rattle.block_words.specs.declared.purpose.Purpose.{Purpose}
use Rattle.block_words.specs.declared.purpose.Purpose.TheVariants.{MacroCall}
use Rattle.block_words.specs.Codes.{rows, one_shot, gives, is_limit, m_code}
use Rattle.block_words.specs.Words.{has}
use Rattle.block_values.specs.Outcomes.{Outcome, Gives, Needs, Alarms}
use Rattle.block_values.specs.Values.{Values, nothing_said, is_dwell}
use Rattle.block_values.specs.InForce.{unless_fault}
use Rattle.block_values.specs.Motion.{Motion, x_axis, z_axis, block_motion, motion_kind, motion_number, passed_motion, motion_of_track, motion_of}
use Rattle.block_values.specs.Moves.{last_end}
use Rattle.path_state.specs.View.{Fixed, PathView}
use Rattle.path_state.specs.Looks.{look_of}
use Rattle.path_state.specs.Said.{sense_of, words_taken, arguments_taken}
use Rattle.path_state.specs.Standing.{Standing, standing_of, standing_behind}
use Rattle.path_state.specs.Effect.{Effect, Done, Moved, with_set_offset, after_motion, motion_with, effect_of_words, done_by, effect_of_control, of_moved, of_values, of_arguments, of_purpose, block_of_words}
use Rattle.path_state.proofs.ControlledStatements.{OnGives}
use Rattle.known_blocks.specs.declared.known.Known.{Known}
use Rattle.known_state.specs.Agreement.{IsSo, IsInForce, IsKnownOf, Agrees, shift_under}
use Rattle.known_blocks.specs.declared.heard.Heard.{Heard}
use Rattle.known_blocks.specs.Heard.{silence, heard_words}
use Rattle.known_state.specs.Hearing.{IsHeard}
use Rattle.known_blocks.specs.InForce.{known_in_force, may_shift}
use Rattle.known_blocks.specs.Known.{nowhere, counted}
use Rattle.known_blocks.specs.Places.{known_axis, known_part, known_motion, known_end}
use Rattle.known_blocks.specs.Behind.{known_behind_codes, known_behind_words}
use Rattle.known_state.proofs.HeardWords.{words-heard}
use Rattle.known_state.proofs.InForceKnown.{modal_behind, counted-known}
use Rattle.known_state.proofs.Targets.{OnMoves, EndsThere, ends_there, motion_leads, axis-known, part-known}

-- what is in force is so, however little is known of X and Z
pub force_alone : (known : Known) (modal : ModalView) (offsets : OffsetTable) (position : Point)
    → IsInForce known modal → IsKnownOf (nowhere known) modal offsets position
force_alone known modal offsets position is =
    (record { motion = is.motion; incremental = is.incremental; per_rev = is.per_rev; feed = is.feed; tool = is.tool }, tt, tt)

-- what is known behind the motion of a block, if there is one
abbrev OnMotion : (Motion → Type 0) → Result Motion ℕ → Type 0
OnMotion P (Ok motion) = P motion
OnMotion P (Err number) = Unit {0}

-- A block of which the codes and words are in force, and what is known of it.
module _ (home position : Point) (offsets : OffsetTable) (modal : ModalView) (values : Values) (has_l : Bool)
    (known : Known) (x z : Option Axis)
    (is : IsKnownOf known modal offsets position)
    (says_x : IsSo x (x_axis modal values)) (says_z : IsSo z (z_axis modal values)) where
  abbrev block : BlockMotion
  block = block_motion home position offsets modal values

  -- so much is known behind this motion
  abbrev IsSoBehind : Known → Motion → Type 0
  IsSoBehind behind motion =
      IsKnownOf behind modal (with_set_offset offsets motion.offset) (last_end position motion.moves)

  -- behind moves that lead to the target
  target-known : (kept : Option Point) (moves : Result (List Move) MotionFault)
      → OnMoves (EndsThere block) moves
      → OnMotion (IsSoBehind (record known { x = known_part x known.x; z = known_part z known.z }))
      (motion_number (motion_of_track kept moves))
  target-known kept (Ok moves) ends =
      subst (λ p. IsKnownOf (record known { x = known_part x known.x; z = known_part z known.z }) modal offsets p) (sym ends) (
        record { motion = is.0.motion; incremental = is.0.incremental; per_rev = is.0.per_rev; feed = is.0.feed; tool = is.0.tool },
        part-known x (x_axis modal values) known.x position.x (shift_under modal offsets).x says_x is.1,
        part-known z (z_axis modal values) known.z position.z (shift_under modal offsets).z says_z is.2,
      )
  target-known kept (Err f) ends = tt

  -- behind any motion, where nothing is known of X and Z
  lost : (motion : Result Motion ℕ) → OnMotion (IsSoBehind (nowhere known)) motion
  lost (Ok motion) =
      force_alone known modal (with_set_offset offsets motion.offset) (last_end position motion.moves) is.0
  lost (Err number) = tt

  -- behind a canned cycle, which ends where it begins
  round-known : (cycle : CycleKind) → OnMotion (IsSoBehind known) (motion_number (passed_motion (pass_of cycle modal.cycle block)))
  round-known cycle = go (names_axis block)
    where
      back : (c : CycleKind) (end : Point) → last_end position (cycle_moves c position end block.feed block.per_rev) ≡ position
      back G90 end = refl
      back G92 end = refl
      back G94 end = refl

      made : (end : Point) (b : Bool)
          → OnMotion (IsSoBehind known)
          (motion_number (passed_motion ((if b then Err (fault FeedZero) else Ok (cycle_moves cycle position end block.feed block.per_rev))
          >>= λ moves. Ok (record { moves = moves; kept = Some end }))))
      made end true = tt
      made end false = subst (λ p. IsKnownOf known modal offsets p) (sym (back cycle end)) is

      ended : (end : Point) (b : Bool)
          → OnMotion (IsSoBehind known)
          (motion_number (passed_motion ((if b then Ok end else Err (fault PositionRange))
          >>= λ end. cycle_of cycle position end block.feed block.per_rev >>= λ moves. Ok (record { moves = moves; kept = Some end }))))
      ended end true = made end (is_zero block.feed)
      ended end false = tt

      go : (n : Bool)
          → OnMotion (IsSoBehind known)
          (motion_number (passed_motion (if n then pass_to_end cycle modal.cycle block else Ok (record { moves = []; kept = modal.cycle }))))
      go true =
          let end = end_point position modal.cycle block.shift block.x block.z in ended end (is_position end)
      go false = is

  -- behind a motion of a code that is known
  kind-known : (k : CodeKind) → OnMotion (IsSoBehind (known_motion (Some k) x z known)) (motion_of home position offsets modal k has_l values)
  kind-known kind.Rapid = target-known modal.cycle (moves_of kind.Rapid block) (ends_there kind.Rapid refl block)
  kind-known kind.Feed = target-known modal.cycle (moves_of kind.Feed block) (ends_there kind.Feed refl block)
  kind-known kind.ArcCw = target-known modal.cycle (moves_of kind.ArcCw block) (ends_there kind.ArcCw refl block)
  kind-known kind.ArcCcw = target-known modal.cycle (moves_of kind.ArcCcw block) (ends_there kind.ArcCcw refl block)
  kind-known kind.Thread = target-known modal.cycle (moves_of kind.Thread block) (ends_there kind.Thread refl block)
  kind-known kind.CycleTurn = round-known G90
  kind-known kind.CycleThread = round-known G92
  kind-known kind.CycleFace = round-known G94
  kind-known k = lost (motion_of home position offsets modal k has_l values)

  -- behind the motion code in force
  motion-known : (motion : Option CodeKind) → IsSo motion modal.motion
      → OnMotion (IsSoBehind (known_motion motion x z known)) (motion_of home position offsets modal modal.motion has_l values)
  motion-known None so = lost (motion_of home position offsets modal modal.motion has_l values)
  motion-known (Some k) so =
      subst (λ m. OnMotion (IsSoBehind (known_motion (Some k) x z known)) (motion_of home position offsets modal m has_l values))
      (sym so) (kind-known k)

  -- a limit of the spindle's speed moves nothing
  limit-known : OnMotion (IsSoBehind known) (motion_of home position offsets modal kind.Limit has_l values)
  limit-known = go (is_move_due kind.Limit block)
    where
      go : (b : Bool) → OnMotion (IsSoBehind known) (motion_number (motion_of_track modal.cycle (if b then Ok [] else Ok [])))
      go true = is
      go false = is

  -- behind the motion of the block, by its one-shot code or by the code in force
  pub shot-known : (shot : Option CodeKind)
      → OnMotion (IsSoBehind (known_end shot x z known)) (motion_of home position offsets modal (motion_kind modal shot) has_l values)
  shot-known None = motion-known known.motion is.0.motion
  shot-known (Some kind.Dwell) = is
  shot-known (Some kind.Limit) = limit-known
  shot-known (Some k) = lost (motion_of home position offsets modal k has_l values)

-- P holds of the path that the words moved, if they moved it
abbrev OnMoved : (PathView → Type 0) → Result Moved ℕ → Type 0
OnMoved P (Ok moved) = P moved.path
OnMoved P (Err number) = Unit {0}

-- P holds of the path behind the block, if the block is done
abbrev pub OnDone : (PathView → Type 0) → Effect → Type 0
OnDone P (Done path write moves) = P path
OnDone P _ = Unit {0}

-- A path before a block of words, with which what is known agrees.
module _ (tape : List ControlProgram) (fixed : Fixed) (path : PathView) (known : Known) (is : Agrees known path)
    (system : System) (words : List FlowWord) where
  -- what is known behind the block, by what was heard
  abbrev behind : Heard → Known
  behind heard = known_behind_codes (rows system words) (one_shot system words) heard known

  words-agree : (values : Values) (heard : Heard) → IsHeard heard values
      → OnMoved (Agrees (behind heard)) (effect_of_words fixed path system words values)
  words-agree values heard hears = go (tool_fault values.tool)
    where
      modal : ModalView
      modal = modal_behind path.modal (rows system words) (gives system is_limit words) values

      now : Known
      now = counted (may_shift (rows system words) heard) (known_in_force (rows system words) heard known)

      so : IsKnownOf now modal path.offsets path.position
      so = counted-known known path.modal (rows system words) (gives system is_limit words) heard values path.offsets path.position is hears

      motion : Result Motion ℕ
      motion = motion_of fixed.home path.position path.offsets modal (motion_kind modal (one_shot system words)) (has (codes "L") words) values

      moved : (m : Result Motion ℕ)
          → OnMotion (λ m. IsKnownOf (behind heard) modal (with_set_offset path.offsets m.offset) (last_end path.position m.moves)) m
          → OnMoved (Agrees (behind heard)) (after_motion path modal system words values m)
      moved (Ok m) known_so =
          subst (λ p. IsKnownOf (behind heard) modal (with_set_offset path.offsets m.offset) p)
          (sym (motion_leads (gives system is_limit words) modal values m.moves (m_code words) path.position)) known_so
      moved (Err number) known_so = tt

      go : (f : Option ModalFault) → OnMoved (Agrees (behind heard)) (motion_with fixed path system words values (unless_fault f modal))
      go None =
          moved motion
          (shot-known fixed.home path.position path.offsets modal values (has (codes "L") words) now
          (known_axis now.incremental heard.x heard.u) (known_axis now.incremental heard.z heard.w) so
          (axis-known now.incremental modal.incremental heard.x heard.u values.x values.u so.0.incremental hears.x hears.u)
          (axis-known now.incremental modal.incremental heard.z heard.w values.z values.w so.0.incremental hears.z hears.w)
          (one_shot system words))
      go (Some fault) = tt

  done-agree : (after : Known) (moved : Moved) (to : Result Standing Cause) → Agrees after moved.path
      → OnDone (Agrees after) (done_by moved to)
  done-agree after moved (Ok to) so = so
  done-agree after moved (Err cause) so = tt

  controlled-agree : (after : Known) (moved : Moved) (arguments : Option (List Var)) (c : Control) → Agrees after moved.path
      → OnDone (Agrees after) (effect_of_control tape moved arguments c)
  controlled-agree after moved arguments control.End so = tt
  controlled-agree after moved arguments c so =
      done-agree after moved (standing_behind tape (standing_of moved.path) arguments c) so

  moved-agree : (after : Known) (c : Control) (moved : Result Moved ℕ) → OnMoved (Agrees after) moved
      → OnDone (Agrees after) (of_moved tape c moved)
  moved-agree after c (Ok moved) so = controlled-agree after moved None c so
  moved-agree after c (Err number) so = tt

  values-agree : (heard : Heard) (c : Control) (values : Outcome Values) → OnGives (IsHeard heard) values
      → OnDone (Agrees (behind heard)) (of_values tape fixed path system words c values)
  values-agree heard c (Gives values left) hears =
      moved-agree (behind heard) c (effect_of_words fixed path system words values) (words-agree values heard hears)
  values-agree heard c (Needs variable) hears = tt
  values-agree heard c (Alarms number value) hears = tt

  arguments-agree : (c : Control) (arguments : Outcome (List Var)) → OnDone (Agrees known) (of_arguments tape path c arguments)
  arguments-agree c (Gives arguments left) =
      controlled-agree known (record { path = path; moves = [] }) (Some arguments) c is
  arguments-agree c (Needs variable) = tt
  arguments-agree c (Alarms number value) = tt

  purpose-agree : (purpose : Purpose) (c : Control) (reads : List Var)
      → OnDone (Agrees (known_behind_words purpose system words known)) (of_purpose tape fixed path purpose system words c reads)
  purpose-agree MacroCall c reads = arguments-agree c (arguments_taken fixed path words all_vacant reads)
  purpose-agree purpose c reads =
      values-agree (heard_words (is_dwell purpose) words silence) c
      (words_taken fixed path (sense_of path purpose system words) words nothing_said reads)
      (words-heard (look_of fixed path) (sense_of path purpose system words) words silence nothing_said reads
      (record { x = refl; z = refl; u = refl; w = refl; feed = refl; tool = refl }))

  -- what is known behind a block of words is so
  pub block-agrees : (purpose : Purpose) (c : Control) (reads : List Var)
      → OnDone (Agrees (known_behind_words purpose system words known)) (block_of_words tape fixed path purpose system words c reads)
  block-agrees purpose (control.Wait code) reads = tt
  block-agrees purpose c reads = purpose-agree purpose c reads
