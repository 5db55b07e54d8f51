-- What each turn leaves as it is: what is fixed for both paths, and that a path that waits stands
-- on a wait. For `turn_into` (src/machine.rt), and by way of Redone for records done again.
use Rattle.std.proofs.Common.{◌≡◌, ℕ, Bool, true, false, ◌==◌, ◌||◌, List, Option, Some, None, is_some, refl, sym, ap, ◌∙◌}
use Rattle.nc_number.specs.declared.path.Path.{Path}
use Rattle.nc_number.specs.declared.path.Path.TheVariants.{Two}
use Rattle.nc_number.specs.declared.value.Var.{Var}
use Rattle.nc_moves.specs.declared.alarm.Alarm.{Alarm}
use Rattle.block_order.specs.declared.control.Control.TheVariants.{Wait}
use Rattle.block_order.specs.declared.program.ControlProgram.{ControlProgram}
use Rattle.block_order.specs.Steps.{control_of_place}
use Rattle.path_state.specs.View.{PathView}
use Rattle.path_state.specs.Effect.{Effect, Need, Done, AtWait, AtEnd}
use Rattle.path_state.specs.Effect as effect
use Rattle.path_state.specs.Controlled.{GoesAsOrdered, KeepsFixed}
use Rattle.nc_number.proofs.Counts.{some_is}
use Rattle.two_path.specs.Machine.{Part, MachineView, own_first}
use Rattle.two_path.specs.Turns.{Blocks, result_at_wait, result_by, own_turn}
use Rattle.two_path.specs.Histories.{with_reads, behind_step}
use Rattle.two_path.specs.Joined.{JointView, machine_of, AreShared, IsLasting, AreAtTheirWaits}
use Rattle.two_path.proofs.Idle.{is_still, own_awake, own_still}

-- what is fixed for each path, its reference position and which variables are shared, is as it was
pub record IsFixed (before after : MachineView) : Type 0 where
  pub first : after.paths.one.path.fixed ≡ before.paths.one.path.fixed
  pub second : after.paths.two.path.fixed ≡ before.paths.two.path.fixed

-- a turn at a wait leaves what is fixed for both paths
wait_fixed : (path : Path) (line : ℕ) (m : MachineView) (code : ℕ) (o : Option ℕ) → IsFixed m (result_at_wait path line m code o).machine
wait_fixed path line m code None = record { first = refl; second = refl }
wait_fixed path line m code (Some there) = go (code == there) refl
  where
    go : (b : Bool) → (code == there) ≡ b → IsFixed m (result_at_wait path line m code (Some there)).machine
    go true e = rw e (record { first = refl; second = refl })
    go false e = rw e (record { first = refl; second = refl })

-- a turn by what the block comes to leaves what is fixed for both paths
by_fixed : (path : Path) (line : ℕ) (m : MachineView) (e : Effect) → KeepsFixed m.paths.one.path e → IsFixed m (result_by path line m e).machine
by_fixed path line m (Need v) k = record { first = refl; second = refl }
by_fixed path line m (Done to write moves) k = record { first = k; second = refl }
by_fixed path line m (AtWait code) k = wait_fixed path line m code m.paths.two.waiting
by_fixed path line m (AtEnd to moves) k = record { first = k; second = refl }
by_fixed path line m (effect.Alarm number value) k = record { first = refl; second = refl }

-- each turn of the path whose part is first leaves what is fixed for both paths
own_fixed : (blocks : Blocks) → ((at : PathView) (values : List Var) → KeepsFixed at (blocks.effect at values)) → (path : Path) (m : MachineView)
    → IsFixed m (own_turn blocks path m).machine
own_fixed blocks keeps path m = go (is_still m) refl
  where
    go : (b : Bool) → is_still m ≡ b → IsFixed m (own_turn blocks path m).machine
    go true e = rw ((own_still blocks path m e).0) (record { first = refl; second = refl })
    go false e = rw (own_awake blocks path m e)
        (by_fixed path (blocks.line m.paths.one.path.place) m (blocks.effect m.paths.one.path m.paths.one.values) (keeps m.paths.one.path m.paths.one.values))

-- the same variables are shared behind a turn
still_shared : (before after : Part) (joint left : JointView) → after.path.fixed ≡ before.path.fixed → IsLasting joint left → AreShared before joint → AreShared after left
still_shared before after joint left fixed lasting shared = record {
  hundreds = lasting.hundreds ∙ shared.hundreds ∙ ap (λ f. f.shared100) (sym fixed);
  upper = lasting.upper ∙ shared.upper ∙ ap (λ f. f.shared500) (sym fixed);
}

-- a path that doesn't wait waits at no code
none_waits : {A : Type 0} {o : Option ℕ} {code : ℕ} → o ≡ None → o ≡ Some code → A
none_waits e w = absurd cc

-- after a turn at a wait each waiting path stands on a wait
wait_waits : (left right : List ControlProgram) (path : Path) (line : ℕ) (m : MachineView) (code : ℕ) → m.paths.one.waiting ≡ None
    → control_of_place left m.paths.one.path.place ≡ Some (Wait code) → AreAtTheirWaits left right m → (o : Option ℕ)
    → AreAtTheirWaits left right (result_at_wait path line m code o).machine
wait_waits left right path line m code none is k None = record {
  first = λ c same. is ∙ ap (λ n. Some (Wait n)) (some_is same);
  second = k.second;
}
wait_waits left right path line m code none is k (Some there) = go (code == there) refl
  where
    go : (b : Bool) → (code == there) ≡ b → AreAtTheirWaits left right (result_at_wait path line m code (Some there)).machine
    go true e = rw e (record { first = λ c same. absurd cc; second = λ c same. absurd cc })
    go false e = rw e (record { first = λ c same. none_waits none same; second = k.second })

-- after a turn by what the block comes to each waiting path stands on a wait
by_waits : (left right : List ControlProgram) (path : Path) (line : ℕ) (m : MachineView) (e : Effect) → m.paths.one.waiting ≡ None → GoesAsOrdered left m.paths.one.path e
    → AreAtTheirWaits left right m → AreAtTheirWaits left right (result_by path line m e).machine
by_waits left right path line m (Need v) none goes k = record { first = λ c same. none_waits none same; second = k.second }
by_waits left right path line m (Done to write moves) none goes k = record { first = λ c same. none_waits none same; second = k.second }
by_waits left right path line m (AtWait code) none goes k = wait_waits left right path line m code none goes k m.paths.two.waiting
by_waits left right path line m (AtEnd to moves) none goes k = record { first = λ c same. none_waits none same; second = k.second }
by_waits left right path line m (effect.Alarm number value) none goes k = record { first = λ c same. none_waits none same; second = k.second }

-- a path that isn't still doesn't wait
not_waiting : (a : Option Alarm) (f : Bool) (o : Option ℕ) → (is_some a || (f || is_some o)) ≡ false → o ≡ None
not_waiting (Some x) f o e = absurd cc
not_waiting None true o e = absurd cc
not_waiting None false (Some n) e = absurd cc
not_waiting None false None e = refl

-- after each turn of the first path each waiting path stands on a wait
own_waits : (left right : List ControlProgram) (blocks : Blocks) → ((at : PathView) (values : List Var) → GoesAsOrdered left at (blocks.effect at values))
    → (path : Path) (m : MachineView) → AreAtTheirWaits left right m → AreAtTheirWaits left right (own_turn blocks path m).machine
own_waits left right blocks led path m k = go (is_still m) refl
  where
    go : (b : Bool) → is_still m ≡ b → AreAtTheirWaits left right (own_turn blocks path m).machine
    go true e = rw ((own_still blocks path m e).0) k
    go false e = rw (own_awake blocks path m e)
        (by_waits left right path (blocks.line m.paths.one.path.place) m (blocks.effect m.paths.one.path m.paths.one.values)
        (not_waiting m.alarm m.paths.one.finished m.paths.one.waiting e) (led m.paths.one.path m.paths.one.values) k)

-- each waiting path stands on a wait with the paths changed over too
pub swapped : (left right : List ControlProgram) (m : MachineView) → AreAtTheirWaits left right m → AreAtTheirWaits right left (own_first Two m)
swapped left right m k = record { first = k.second; second = k.first }

-- behind a turn that the code has made both parts share the variables of the joint part
pub shared_behind : (blocks : Blocks) → ((at : PathView) (values : List Var) → KeepsFixed at (blocks.effect at values)) → (path : Path)
    → (me other me' other' : Part) (joint joint' : JointView) → machine_of me' other' joint' ≡ (own_turn blocks path (machine_of me other joint)).machine
    → IsLasting joint joint' → AreShared me joint → AreShared other joint → AreShared me' joint' × AreShared other' joint'
shared_behind blocks keeps path me other me' other' joint joint' is lasting mine theirs =
    let fixed = own_fixed blocks keeps path (machine_of me other joint) in (
      still_shared me me' joint joint' (ap (λ (m : MachineView). m.paths.one.path.fixed) is ∙ fixed.first) lasting mine,
      still_shared other other' joint joint' (ap (λ (m : MachineView). m.paths.two.path.fixed) is ∙ fixed.second) lasting theirs,
    )

-- behind a turn that the code has made each waiting path stands on a wait
pub waits_behind : (left right : List ControlProgram) (blocks : Blocks) → ((at : PathView) (values : List Var) → GoesAsOrdered left at (blocks.effect at values))
    → (path : Path) (m to : MachineView) → to ≡ (own_turn blocks path m).machine → AreAtTheirWaits left right m → AreAtTheirWaits left right to
waits_behind left right blocks led path m to is k = rw is (own_waits left right blocks led path m k)

-- behind a record that is done again both parts share the variables of the joint part
pub step_shared : (blocks : Blocks) → ((at : PathView) (values : List Var) → KeepsFixed at (blocks.effect at values)) → (path : Path) (stamps : List ℕ)
    → (me other me' other' : Part) (joint joint' : JointView) → machine_of me' other' joint' ≡ behind_step blocks path stamps (machine_of me other joint)
    → IsLasting joint joint' → AreShared me joint → AreShared other joint → AreShared me' joint' × AreShared other' joint'
step_shared blocks keeps path stamps me other me' other' joint joint' is lasting mine theirs =
    let fixed = own_fixed blocks keeps path (with_reads blocks stamps (machine_of me other joint)) in (
      still_shared me me' joint joint' (ap (λ (m : MachineView). m.paths.one.path.fixed) is ∙ fixed.first) lasting mine,
      still_shared other other' joint joint' (ap (λ (m : MachineView). m.paths.two.path.fixed) is ∙ fixed.second) lasting theirs,
    )

-- after a record that is done again each waiting path stands on a wait
pub step_waits : (left right : List ControlProgram) (blocks : Blocks) → ((at : PathView) (values : List Var) → GoesAsOrdered left at (blocks.effect at values))
    → (path : Path) (stamps : List ℕ) (m to : MachineView) → to ≡ behind_step blocks path stamps m → AreAtTheirWaits left right m → AreAtTheirWaits left right to
step_waits left right blocks led path stamps m to is k =
    let w = own_waits left right blocks led path (with_reads blocks stamps m) (record { first = k.first; second = k.second }) in
    rw is (record { first = w.first; second = w.second })
