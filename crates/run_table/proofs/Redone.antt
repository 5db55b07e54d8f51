-- The turn of a record that is done again is the turn that made it.
-- HeldSteps uses it.
use Rattle.std.proofs.Common.{◌≡◌, ℕ, ◌==◌, Bool, true, false, List, refl, sym, ◌∙◌, ap, Option, Some, None}
use Rattle.nc_number.specs.declared.path.Path.{Path}
use Rattle.nc_number.specs.declared.path.Path.TheVariants.{One, Two}
use Rattle.nc_number.specs.declared.value.Var.{Var}
use Rattle.nc_number.specs.Both.{of_path}
use Rattle.nc_moves.specs.declared.alarm.Alarm.{Alarm}
use Rattle.path_state.specs.Effect.{Effect, Need, Done, AtWait, AtEnd}
use Rattle.path_state.specs.Effect as effect
use Rattle.run_records.specs.Entries.{edit_of}
use Rattle.run_records.specs.declared.edit.Edit.{Edit}
use Rattle.run_records.specs.declared.entry.EntryKind.{EntryKind}
use Rattle.two_path.specs.Machine.{MachineView, own_first, part_without_reads, without_reads}
use Rattle.two_path.specs.Turns.{Blocks, Tapes, result_at_wait, result_by, unless_idle, block_turn, own_turn, turn_of}
use Rattle.two_path.specs.Histories.{with_values, with_reads, IsLawful, AreLawful}
use Rattle.two_path.specs.Again.{turn_by, turn_of_entry}

-- the machine without what the second path's block has read, which is nothing to a turn of the
-- first path
abbrev aside : MachineView → MachineView
aside m = record m { paths = record m.paths { two = part_without_reads m.paths.two } }

-- a turn at a wait is the same without what the second path's block has read
wait_aside : (path : Path) (line : ℕ) (m : MachineView) (code : ℕ) (there : Option ℕ)
    → (result_at_wait path line (aside m) code there).turn ≡ (result_at_wait path line m code there).turn
wait_aside path line m code None = refl
wait_aside path line m code (Some there) = go (code == there) refl
  where
    go : (b : Bool) → (code == there) ≡ b → (result_at_wait path line (aside m) code (Some there)).turn ≡ (result_at_wait path line m code (Some there)).turn
    go true e = rw e refl
    go false e = rw e refl

-- a turn by what the block comes to is the same without what the second path's block has read
by_aside : (path : Path) (line : ℕ) (m : MachineView) (e : Effect) → (result_by path line (aside m) e).turn ≡ (result_by path line m e).turn
by_aside path line m (Need variable) = refl
by_aside path line m (Done after write moves) = refl
by_aside path line m (AtWait code) = wait_aside path line m code m.paths.two.waiting
by_aside path line m (AtEnd after moves) = refl
by_aside path line m (effect.Alarm number value) = refl

-- a turn that may do nothing is the same without what the second path's block has read
idle_aside : (blocks : Blocks) (path : Path) (m : MachineView) (a : Option Alarm) (f : Bool) (w : Option ℕ)
    → (unless_idle (aside m) a f w (block_turn blocks path (aside m))).turn ≡ (unless_idle m a f w (block_turn blocks path m)).turn
idle_aside blocks path m (Some alarm) f w = refl
idle_aside blocks path m None true w = refl
idle_aside blocks path m None false (Some code) = refl
idle_aside blocks path m None false None =
    by_aside path (blocks.line m.paths.one.path.place) m (blocks.effect m.paths.one.path m.paths.one.values)

-- a whole turn of the first path is the same without what the second path's block has read
own_aside : (blocks : Blocks) (path : Path) (m : MachineView) → (own_turn blocks path (aside m)).turn ≡ (own_turn blocks path m).turn
own_aside blocks path m = idle_aside blocks path m m.alarm m.paths.one.finished m.paths.one.waiting

-- with its stamps the turn of the path whose part stands first is done again
own_redone : (blocks : Blocks) (path : Path) (m : MachineView) → IsLawful blocks m
    → (own_turn blocks path (with_reads blocks m.paths.one.stamps (without_reads m))).turn ≡ (own_turn blocks path m).turn
own_redone blocks path m lawful =
    ap (λ (values : List Var). (own_turn blocks path (with_values values m.paths.one.stamps (aside m))).turn) (sym lawful.values) ∙ own_aside blocks path m

-- with its stamps the turn of either path is done again
step_redone : (tapes : Tapes) (path : Path) (m : MachineView) → AreLawful tapes m
    → turn_by (of_path tapes path) path None (of_path m.paths path).stamps (own_first path (without_reads m)) ≡ (turn_of tapes path m).turn
step_redone tapes One m lawful = own_redone tapes.one One m lawful.first
step_redone tapes Two m lawful = own_redone tapes.two Two (own_first Two m) lawful.second

-- the record of a turn, done again, answers what the turn answered
pub redone : (tapes : Tapes) (path : Path) (m : MachineView) (k : EntryKind) → edit_of k ≡ None → AreLawful tapes m
    → turn_of_entry tapes (record { path = path; kind = k; stamps = (of_path m.paths path).stamps }) (without_reads m) ≡ (turn_of tapes path m).turn
redone tapes path m k none lawful =
    ap (λ (o : Option Edit). turn_by (of_path tapes path) path o (of_path m.paths path).stamps (own_first path (without_reads m))) none
    ∙ step_redone tapes path m lawful
