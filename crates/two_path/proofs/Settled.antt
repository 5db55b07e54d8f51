-- What a turn comes to, from the answer of a path that has taken its block: for `settle`
-- (src/turning.rt).
use Rattle.std.proofs.Common.{◌≡◌, ℕ, ◌<◌, true, List, length, Option, Some, sym, ap, subst, ◌∙◌}
use Rattle.nc_number.specs.declared.path.Path.{Path}
use Rattle.nc_moves.specs.declared.motion.Move.{Move}
use Rattle.block_order.specs.declared.control.Control.TheVariants.{Wait}
use Rattle.block_order.specs.declared.program.ControlProgram.{ControlProgram}
use Rattle.block_order.specs.Steps.{control_of_place}
use Rattle.run_records.specs.Entries.{Entry}
use Rattle.run_records.specs.declared.entry.EntryKind.{EntryKind}
use Rattle.path_state.specs.declared.advance.BlockAnswer.{BlockAnswer}
use Rattle.path_state.specs.declared.advance.BlockAnswer.TheVariants as answer
use Rattle.path_state.specs.View.{PathView}
use Rattle.path_state.specs.Looks.{is_shared}
use Rattle.path_state.specs.Advances.{effect_told}
use Rattle.path_state.specs.Controlled.{GoesAsOrdered, AsksForShared}
use Rattle.two_path.specs.Machine.{Part}
use Rattle.two_path.specs.Turns.{Blocks, TurnResult, result_by, block_turn, kind_of, entry_with}
use Rattle.two_path.specs.Joined.{JointView, machine_of, HasTaken}
use Rattle.two_path.proofs.Stays.{stays, else_same}

-- what the answer comes to, with the path's old state put back, is the turn of the block
pub went : (blocks : Blocks) (path : Path) (line : ℕ) (before now other : Part) (joint : JointView) (told : BlockAnswer) (moves : List Move)
    → blocks.line before.path.place ≡ line → HasTaken blocks before now told moves
    → result_by path line (machine_of (record now { path = before.path }) other joint) (effect_told told moves now.path)
    ≡ block_turn blocks path (machine_of before other joint)
went blocks path line before now other joint told moves here taken =
    ap (λ (p : Part). result_by path line (machine_of p other joint) (effect_told told moves now.path)) (else_same before now taken.rest)
    ∙ ap (λ e. result_by path line (machine_of before other joint) e) taken.effect
    ∙ ap (λ n. result_by path n (machine_of before other joint) (blocks.effect before.path before.values)) (sym here)

-- if the path's state did not change, what the answer comes to is the turn of the block
pub stood : (blocks : Blocks) (path : Path) (line : ℕ) (before now other : Part) (joint : JointView) (told : BlockAnswer) (moves : List Move)
    → blocks.line before.path.place ≡ line → HasTaken blocks before now told moves → now.path ≡ before.path
    → result_by path line (machine_of now other joint) (effect_told told moves now.path) ≡ block_turn blocks path (machine_of before other joint)
stood blocks path line before now other joint told moves here taken same =
    ap (λ (p : Part). result_by path line (machine_of p other joint) (effect_told told moves now.path)) (stays before now taken.rest same)
    ∙ ap (λ e. result_by path line (machine_of before other joint) e) taken.effect
    ∙ ap (λ n. result_by path n (machine_of before other joint) (blocks.effect before.path before.values)) (sym here)

-- what the block had read is what the path has read
pub same_stamps : (blocks : Blocks) (before now : Part) (told : BlockAnswer) (moves : List Move) → HasTaken blocks before now told moves
    → now.stamps ≡ before.stamps
same_stamps blocks before now told moves taken = ap (λ (p : Part). p.stamps) taken.rest

-- a record with the stamps of the path and the kind of what the answer comes to is that of the turn
-- of the block
pub entry_of_block : (path : Path) (before now : Part) (entry : Option Entry) (kind : Option EntryKind) (came : TurnResult) (of_block : TurnResult)
    → now.stamps ≡ before.stamps → came ≡ of_block → kind_of came.turn ≡ kind → entry ≡ entry_with path now.stamps kind
    → entry ≡ entry_with path before.stamps (kind_of of_block.turn)
entry_of_block path before now entry kind came of_block stamps is of_kind made =
    made ∙ ap (λ s. entry_with path s kind) stamps ∙ ap (λ k. entry_with path before.stamps k) (sym of_kind) ∙ ap (λ (r : TurnResult). entry_with path before.stamps (kind_of r.turn)) is

-- what a block asks for is shared, and there is room for its value
pub asks_now : (blocks : Blocks) (before now : Part) (v : ℕ) (moves : List Move) → HasTaken blocks before now (answer.Need v) moves
    → AsksForShared before.path before.values (blocks.effect before.path before.values)
    → (is_shared before.path.fixed v ≡ true) × (length now.values < 32)
asks_now blocks before now v moves taken asks =
    let here = subst (AsksForShared before.path before.values) (sym taken.effect) asks in
    (here.0, subst (λ vs. length vs < 32) (sym (ap (λ (p : Part). p.values) taken.rest)) here.1)

-- a path that came to a wait stands on it
pub waits_now : (tape : List ControlProgram) (blocks : Blocks) (before now : Part) (code : ℕ) (moves : List Move)
    → HasTaken blocks before now (answer.AtWait code) moves
    → GoesAsOrdered tape before.path (blocks.effect before.path before.values) → control_of_place tape now.path.place ≡ Some (Wait code)
waits_now tape blocks before now code moves taken ordered =
    let here : control_of_place tape before.path.place ≡ Some (Wait code) = subst (GoesAsOrdered tape before.path) (sym taken.effect) ordered in
    subst (λ (p : PathView). control_of_place tape p.place ≡ Some (Wait code)) (sym taken.stays) here
