-- A path's turn brings it to the wait of a code just if no alarm came, it has not ended and does not
-- wait, its block is that wait, and the other path does not wait at another code.
-- For the proof of `Table::wait_ahead` (src/table.rt).
use Rattle.std.proofs.Common.{◌≡◌, ℕ, ◌==◌, Bool, true, false, refl, sym, ◌∙◌, ap, subst, Option, Some, None}
use Rattle.std.specs.Prelude.{slice_get, if◌then◌else◌}
use Rattle.nc_number.specs.declared.path.Path.{Path}
use Rattle.nc_number.specs.declared.path.Path.TheVariants.{One, Two}
use Rattle.nc_number.specs.Path.{other_of}
use Rattle.nc_number.specs.Both.{of_path}
use Rattle.nc_moves.specs.declared.alarm.Alarm.{Alarm}
use Rattle.block_order.specs.declared.control.Control.{Control}
use Rattle.block_order.specs.declared.control.Control.TheVariants.{Next, Goto, While, Do, EndLoop, Wait, End, Call, Back, BackTo}
use Rattle.block_order.specs.declared.frame.Frame.{Frame}
use Rattle.block_order.specs.Steps.{control_of_place}
use Rattle.tape_flow.specs.declared.flow.Flow.{Flow}
use Rattle.tape_flow.specs.Places.{label_of, label_at}
use Rattle.path_state.specs.View.{PathView}
use Rattle.path_state.specs.Effect.{Effect, Need, Done, AtWait, AtEnd, effect_of}
use Rattle.path_state.specs.Effect as effect
use Rattle.path_state.specs.Controlled.{GoesAsOrdered, IsControlled}
use Rattle.two_path.specs.Machine.{MachineView, own_first}
use Rattle.two_path.specs.Turns.{blocks_of, result_at_wait, result_by, unless_idle, block_turn, own_turn, turn_of}
use Rattle.nc_verify.specs.declared.verified.Verified.{Verified}
use Rattle.run_table.specs.Kept.{tapes_in}
use Rattle.run_table.specs.Draining.{flow_for, may_come, comes_to, comes_by, wait_of}

-- the label of a block that is no wait is none to which the path comes
no_label : (caller : Option Frame) (s : Option Control) (there : Option ℕ) → ((code : ℕ) → s ≡ Some (Wait code) → ⊥) → comes_to (label_of caller s) there ≡ None
no_label caller None there never = refl
no_label caller (Some (Wait code)) there never = absurd (never code refl)
no_label caller (Some Next) there never = refl
no_label caller (Some (Goto n)) there never = refl
no_label caller (Some (While m)) there never = refl
no_label caller (Some (Do m)) there never = refl
no_label caller (Some (EndLoop m)) there never = refl
no_label caller (Some End) there never = refl
no_label caller (Some (Call program repeats)) there never = refl
no_label None (Some Back) there never = refl
no_label (Some f) (Some Back) there never = refl
no_label caller (Some (BackTo n)) there never = refl

-- a turn at a wait brings the path to it just if the other path does not wait at another code
at_wait : (path : Path) (line : ℕ) (m : MachineView) (code : ℕ) (there : Option ℕ) → wait_of (result_at_wait path line m code there).turn ≡ (if may_come code there then Some code else None)
at_wait path line m code None = refl
at_wait path line m code (Some there) = go (code == there) refl
  where
    go : (b : Bool) → (code == there) ≡ b → wait_of (result_at_wait path line m code (Some there)).turn ≡ (if may_come code (Some there) then Some code else None)
    go true e = rw e refl
    go false e = rw e refl

-- the path whose part stands first, on a flow whose blocks go as ordered
module _ (flow : Flow) (control : IsControlled flow)
    (waits : (path : PathView) (code : ℕ) (reads : _) → control_of_place flow.order path.place ≡ Some (Wait code) → effect_of flow path reads ≡ AtWait code)
    (path : Path) (m : MachineView) where
  -- a path whose block comes to no wait stands on no wait
  elsewhere : (e : Effect) → effect_of flow m.paths.one.path m.paths.one.values ≡ e → ((code : ℕ) → e ≡ AtWait code → ⊥)
      → comes_to (label_at flow.order m.paths.one.path.place) m.paths.two.waiting ≡ None
  elsewhere e is never =
      no_label (slice_get m.paths.one.path.place 1) (control_of_place flow.order m.paths.one.path.place) m.paths.two.waiting
      (λ code on. never code (sym is ∙ waits m.paths.one.path code m.paths.one.values on))

  -- the turn of a block brings the path to a wait just if its label is a wait to which it may come
  here : (e : Effect) → effect_of flow m.paths.one.path m.paths.one.values ≡ e → (line : ℕ)
      → wait_of (result_by path line m e).turn ≡ comes_to (label_at flow.order m.paths.one.path.place) m.paths.two.waiting
  here (Need variable) is line = sym (elsewhere (Need variable) is (λ code clash. cc))
  here (Done after write moves) is line = sym (elsewhere (Done after write moves) is (λ code clash. cc))
  here (AtWait code) is line =
      let stands : control_of_place flow.order m.paths.one.path.place ≡ Some (Wait code) = subst (GoesAsOrdered flow.order m.paths.one.path) is (control m.paths.one.path m.paths.one.values) in
      at_wait path line m code m.paths.two.waiting ∙ sym (ap (λ (s : Option Control). comes_to (label_of (slice_get m.paths.one.path.place 1) s) m.paths.two.waiting) stands)
  here (AtEnd after moves) is line = sym (elsewhere (AtEnd after moves) is (λ code clash. cc))
  here (effect.Alarm number value) is line = sym (elsewhere (effect.Alarm number value) is (λ code clash. cc))

  -- a turn that may do nothing brings the path to a wait just if its label is one to which it may
  -- come
  by_idle : (a : Option Alarm) (f : Bool) (w : Option ℕ)
      → wait_of (unless_idle m a f w (block_turn (blocks_of flow) path m)).turn ≡ comes_by a f w (label_at flow.order m.paths.one.path.place) m.paths.two.waiting
  by_idle (Some alarm) f w = refl
  by_idle None true w = refl
  by_idle None false (Some code) = refl
  by_idle None false None = here (effect_of flow m.paths.one.path m.paths.one.values) refl ((blocks_of flow).line m.paths.one.path.place)

  -- a whole turn of the path whose part stands first brings it to a wait just if its label is one
  -- to which it may come
  pub own_wait : wait_of (own_turn (blocks_of flow) path m).turn ≡ comes_by m.alarm m.paths.one.finished m.paths.one.waiting (label_at flow.order m.paths.one.path.place) m.paths.two.waiting
  own_wait = by_idle m.alarm m.paths.one.finished m.paths.one.waiting

-- a turn of either path brings it to a wait just if its label is one to which it may come
pub wait_ahead : (verified : Verified) → ((flow : Flow) → IsControlled flow)
    → ((flow : Flow) (path : PathView) (code : ℕ) (reads : _) → control_of_place flow.order path.place ≡ Some (Wait code) → effect_of flow path reads ≡ AtWait code)
    → (path : Path) (m : MachineView)
    → comes_by m.alarm (of_path m.paths path).finished (of_path m.paths path).waiting
    (label_at (flow_for verified path).order (of_path m.paths path).path.place) (of_path m.paths (other_of path)).waiting
    ≡ wait_of (turn_of (tapes_in verified) path m).turn
wait_ahead verified control waits One m = sym (own_wait verified.left (control verified.left) (waits verified.left) One m)
wait_ahead verified control waits Two m = sym (own_wait verified.right (control verified.right) (waits verified.right) Two (own_first Two m))
