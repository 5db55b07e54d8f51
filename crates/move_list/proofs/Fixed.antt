-- What is fixed for the paths, as which variables they share, stays over a history. So the text of
-- a state may ask the settings which variables are shared.
-- The proof of `machines_share_as_the_settings_say` (src/state.rt) uses it. The lemmas on turns
-- suppose that the blocks of both tapes keep what is fixed (`KeepFixed`).
use Rattle.std.proofs.Common.{◌≡◌, ◌==◌, ℕ, Bool, true, false, List, [], ◌∷◌, Option, Some, None, refl, ap, sym, ◌∙◌}
use Rattle.nc_number.specs.declared.path.Path.{Path}
use Rattle.nc_number.specs.declared.path.Path.TheVariants.{One, Two}
use Rattle.nc_number.specs.declared.value.Var.{Var}
use Rattle.nc_number.specs.Both.{of_path}
use Rattle.nc_moves.specs.declared.alarm.Alarm.{Alarm}
use Rattle.run_records.specs.Entries.{Entry, edit_of}
use Rattle.run_records.specs.declared.edit.Edit.{Edit}
use Rattle.cell_settings.specs.declared.settings.Settings.{Settings}
use Rattle.tape_flow.specs.declared.flow.Flow.{Flow}
use Rattle.path_state.specs.View.{PathView}
use Rattle.path_state.specs.Effect.{Effect, Need, Done, AtWait, AtEnd}
use Rattle.path_state.specs.Effect as effect
use Rattle.path_state.specs.Controlled.{KeepsFixed}
use Rattle.two_path.specs.Machine.{MachineView, own_first}
use Rattle.two_path.specs.Turns.{Blocks, Tapes, TurnResult, tapes_of, result_by, result_at_wait, unless_idle, own_turn}
use Rattle.two_path.specs.Histories.{with_reads, behind_step, behind_own, behind_entry, fold}
use Rattle.two_path.specs.Start.{machine_at_start}
use Rattle.move_list.specs.State.{IsMachineOf, SharesAs}

-- each of these blocks keeps what is fixed, whatever the path and what the block has read
abbrev pub KeepFixed : Blocks → Type 0
KeepFixed blocks = (path : PathView) (reads : List Var) → KeepsFixed path (blocks.effect path reads)

-- what is fixed for each path is the same in both machines
record AreFixedAs (a b : MachineView) : Type 0 where
  -- for path 1
  first : a.paths.one.path.fixed ≡ b.paths.one.path.fixed
  -- for path 2
  second : a.paths.two.path.fixed ≡ b.paths.two.path.fixed

-- a turn at a wait keeps what is fixed
at_wait_keeps : (path : Path) (line : ℕ) (m : MachineView) (code : ℕ) (waiting : Option ℕ)
    → AreFixedAs (result_at_wait path line m code waiting).machine m
at_wait_keeps path line m code None = record { first = refl; second = refl }
at_wait_keeps path line m code (Some there) = go (code == there) refl
  where
    go : (same : Bool) → (code == there) ≡ same → AreFixedAs (result_at_wait path line m code (Some there)).machine m
    go true e = rw e (record { first = refl; second = refl })
    go false e = rw e (record { first = refl; second = refl })

-- a turn that runs a block keeps what is fixed, if the block does
block_keeps : (path : Path) (line : ℕ) (m : MachineView) (e : Effect) → KeepsFixed m.paths.one.path e
    → AreFixedAs (result_by path line m e).machine m
block_keeps path line m (Need variable) k = record { first = refl; second = refl }
block_keeps path line m (Done after write moves) k = record { first = k; second = refl }
block_keeps path line m (AtWait code) k = at_wait_keeps path line m code m.paths.two.waiting
block_keeps path line m (AtEnd after moves) k = record { first = k; second = refl }
block_keeps path line m (effect.Alarm number value) k = record { first = refl; second = refl }

-- a turn of a path that can't go on keeps what is fixed
idle_keeps : (m : MachineView) (alarm : Option Alarm) (finished : Bool) (waiting : Option ℕ) (rest : TurnResult)
    → AreFixedAs rest.machine m → AreFixedAs (unless_idle m alarm finished waiting rest).machine m
idle_keeps m (Some alarm) finished waiting rest k = record { first = refl; second = refl }
idle_keeps m None true waiting rest k = record { first = refl; second = refl }
idle_keeps m None false (Some code) rest k = record { first = refl; second = refl }
idle_keeps m None false None rest k = k

-- each turn keeps what is fixed
turn_keeps : (blocks : Blocks) (path : Path) (m : MachineView) → KeepFixed blocks → AreFixedAs (own_turn blocks path m).machine m
turn_keeps blocks path m keep =
    idle_keeps m m.alarm m.paths.one.finished m.paths.one.waiting _
    (block_keeps path (blocks.line m.paths.one.path.place) m (blocks.effect m.paths.one.path m.paths.one.values) (keep m.paths.one.path m.paths.one.values))

-- a turn and its record keep what is fixed
step_keeps : (blocks : Blocks) (path : Path) (stamps : List ℕ) (m : MachineView) → KeepFixed blocks
    → AreFixedAs (behind_step blocks path stamps m) m
step_keeps blocks path stamps m keep =
    let k = turn_keeps blocks path (with_reads blocks stamps m) keep in
    record { first = k.first; second = k.second }

-- a turn of either path keeps what is fixed
path_keeps : (tapes : Tapes) (path : Path) (stamps : List ℕ) (m : MachineView) → KeepFixed tapes.one → KeepFixed tapes.two
    → AreFixedAs (own_first path (behind_step (of_path tapes path) path stamps (own_first path m))) m
path_keeps tapes One stamps m one two = step_keeps tapes.one One stamps m one
path_keeps tapes Two stamps m one two =
    let k = step_keeps tapes.two Two stamps (own_first Two m) two in
    record { first = k.second; second = k.first }

-- a record that is done again, an edit or a turn with these stamps, keeps what is fixed
entry_keeps : (tapes : Tapes) (path : Path) (edit : Option Edit) (stamps : List ℕ) (m : MachineView) → KeepFixed tapes.one → KeepFixed tapes.two
    → AreFixedAs (own_first path (behind_own (of_path tapes path) path edit stamps (own_first path m))) m
entry_keeps tapes path None stamps m one two = path_keeps tapes path stamps m one two
entry_keeps tapes One (Some edit) stamps m one two = record { first = refl; second = refl }
entry_keeps tapes Two (Some edit) stamps m one two = record { first = refl; second = refl }

-- a history keeps what is fixed
fold_keeps : (tapes : Tapes) (m : MachineView) (entries : List Entry) → KeepFixed tapes.one → KeepFixed tapes.two
    → AreFixedAs (fold tapes m entries) m
fold_keeps tapes m [] one two = record { first = refl; second = refl }
fold_keeps tapes m (e ∷ entries) one two =
    let rest = fold_keeps tapes (behind_entry tapes e m) entries one two in
    let this = entry_keeps tapes e.path (edit_of e.kind) e.stamps m one two in
    record { first = rest.first ∙ this.first; second = rest.second ∙ this.second }

-- path 1 of a machine of the pair shares what the settings say
pub first_shares : (left right : Flow) (settings : Settings) (m : MachineView)
    → KeepFixed (tapes_of left right).one → KeepFixed (tapes_of left right).two
    → IsMachineOf (tapes_of left right) (machine_at_start left right settings) m → SharesAs settings m.paths.one.path.fixed
first_shares left right settings m one two is =
    let kept = fold_keeps (tapes_of left right) (machine_at_start left right settings) is.entries one two in
    let fixed : m.paths.one.path.fixed ≡ (machine_at_start left right settings).paths.one.path.fixed = ap (λ (x : MachineView). x.paths.one.path.fixed) (sym is.folds) ∙ kept.first in
    record { hundreds = ap (λ f. f.shared100) fixed; upper = ap (λ f. f.shared500) fixed }

-- path 2 of a machine of the pair shares what the settings say
pub second_shares : (left right : Flow) (settings : Settings) (m : MachineView)
    → KeepFixed (tapes_of left right).one → KeepFixed (tapes_of left right).two
    → IsMachineOf (tapes_of left right) (machine_at_start left right settings) m → SharesAs settings m.paths.two.path.fixed
second_shares left right settings m one two is =
    let kept = fold_keeps (tapes_of left right) (machine_at_start left right settings) is.entries one two in
    let fixed : m.paths.two.path.fixed ≡ (machine_at_start left right settings).paths.two.path.fixed = ap (λ (x : MachineView). x.paths.two.path.fixed) (sym is.folds) ∙ kept.second in
    record { hundreds = ap (λ f. f.shared100) fixed; upper = ap (λ f. f.shared500) fixed }
