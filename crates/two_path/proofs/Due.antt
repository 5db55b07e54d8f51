-- A block that is taken at once, and whose record is not due, left its path as it was: for
-- `take_at_once` (src/again.rt).
use Rattle.std.proofs.Common.{◌≡◌, ℕ, Bool, true, false, List, Option, Some, None, refl, sym, ap, subst, ◌∙◌}
use Rattle.nc_moves.specs.declared.motion.Move.{Move}
use Rattle.block_order.specs.declared.control.Control.{Control}
use Rattle.block_order.specs.declared.control.Control.TheVariants.{Wait, End, Back}
use Rattle.block_order.specs.declared.frame.Frame.{Frame}
use Rattle.block_order.specs.declared.program.ControlProgram.{ControlProgram}
use Rattle.block_order.specs.Steps.{control_of_place}
use Rattle.run_records.specs.declared.entry.EntryKind.{EntryKind}
use Rattle.run_records.specs.declared.entry.EntryKind.TheVariants as kind
use Rattle.tape_flow.specs.Places.{label_of, label_at}
use Rattle.path_state.specs.declared.advance.BlockAnswer.{BlockAnswer}
use Rattle.path_state.specs.declared.advance.BlockAnswer.TheVariants as answer
use Rattle.path_state.specs.View.{PathView}
use Rattle.path_state.specs.Statements.{Write}
use Rattle.path_state.specs.StatementSteps.{write_seen}
use Rattle.path_state.specs.Controlled.{GoesAsOrdered}
use Rattle.path_state.specs.Effect.{Effect, Done, AtWait, AtEnd}
use Rattle.two_path.specs.Machine.{Part}
use Rattle.two_path.specs.Turns.{Blocks}
use Rattle.two_path.specs.Joined.{HasTaken}
use Rattle.two_path.specs.Again.{is_did, is_ended, changes_only_by, kind_of_effect, kind_of_block}

-- a kind that tests as that of a done block is that kind
did_is : (k : EntryKind) → is_did k ≡ true → k ≡ kind.Did
did_is kind.Did is = refl
did_is _ is = absurd cc

-- a kind that tests as that of an end is that kind
ended_is : (k : EntryKind) → is_ended k ≡ true → k ≡ kind.Ended
ended_is kind.Ended is = refl
ended_is _ is = absurd cc

-- at no wait and no end the only record that changes the path is that of a done block
did_at : (caller : Option Frame) (s : Option Control) (k : EntryKind) → changes_only_by (label_of caller s) k ≡ true
    → ((code : ℕ) → s ≡ Some (Wait code) → ⊥) → (s ≡ Some End → ⊥) → k ≡ kind.Did
did_at caller None k is wait end = did_is k is
did_at caller (Some (Wait code)) k is wait end = absurd (wait code refl)
did_at caller (Some End) k is wait end = absurd (end refl)
did_at None (Some Back) k is wait end = did_is k is
did_at (Some f) (Some Back) k is wait end = did_is k is
did_at caller (Some other) k is wait end = did_is k is

-- at an end the only record that changes the path is the end
ended_at : (caller : Option Frame) (s : Option Control) (k : EntryKind) → changes_only_by (label_of caller s) k ≡ true → s ≡ Some End → k ≡ kind.Ended
ended_at caller s k is end = ended_is k (ap (λ x. changes_only_by (label_of caller x) k) (sym end) ∙ is)

-- A path that changes only by a record of this kind stays as it was if its block makes none: of
-- a wait nothing is done, no block follows an end, and a path ends only at one.
pub stays : (tape : List ControlProgram) (blocks : Blocks) (k : EntryKind) (caller : Option Frame) (before now other : Part) (answer : BlockAnswer) (moves : List Move)
    → changes_only_by (label_of caller (control_of_place tape before.path.place)) k ≡ true
    → GoesAsOrdered tape before.path (blocks.effect before.path before.values)
    → ((code : ℕ) → control_of_place tape before.path.place ≡ Some (Wait code) → blocks.effect before.path before.values ≡ AtWait code)
    → (control_of_place tape before.path.place ≡ Some End → (after : PathView) (write : Option Write) (moves : List Move)
    → blocks.effect before.path before.values ≡ Done after write moves → ⊥)
    → HasTaken blocks before now answer moves
    → (kind_of_block blocks before other ≡ Some k → ⊥) → now ≡ before
stays tape blocks k caller before now other (answer.Need v) moves only goes wait ends taken differs =
    taken.rest ∙ ap (λ (p : PathView). record before { path = p }) taken.stays
stays tape blocks k caller before now other (answer.AtWait code) moves only goes wait ends taken differs =
    taken.rest ∙ ap (λ (p : PathView). record before { path = p }) taken.stays
stays tape blocks k caller before now other (answer.Alarm cause value) moves only goes wait ends taken differs =
    taken.rest ∙ ap (λ (p : PathView). record before { path = p }) taken.stays
stays tape blocks k caller before now other (answer.Done write) moves only goes wait ends taken differs =
    let did : k ≡ kind.Did = did_at caller (control_of_place tape before.path.place) k only
    (λ code at. let waits : Done now.path (write_seen write) moves ≡ AtWait code = taken.effect ∙ wait code at in cc)
    (λ at. ends at now.path (write_seen write) moves (sym taken.effect)) in
    absurd (differs (ap (λ (e : Effect). kind_of_effect e other.waiting) (sym taken.effect) ∙ ap Some (sym did)))
stays tape blocks k caller before now other answer.AtEnd moves only goes wait ends taken differs =
    let at : GoesAsOrdered tape before.path (AtEnd now.path moves) = subst (GoesAsOrdered tape before.path) (sym taken.effect) goes in
    absurd (differs (ap (λ (e : Effect). kind_of_effect e other.waiting) (sym taken.effect)
    ∙ ap Some (sym (ended_at caller (control_of_place tape before.path.place) k only at.0))))
