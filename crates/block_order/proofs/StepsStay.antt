-- Steps lead from place to place, and what a wait and an end say of the labels ahead. A place is
-- the list of a path's open programs, the running one first; a program counts if its labels come.
-- For OnePath.
use Rattle.std.proofs.Common.{◌≡◌, ℕ, zero, suc, inl, inr, true, List, [], ◌∷◌, Some, refl, ap, sym, subst, ◌∙◌}
use Rattle.block_order.specs.declared.control.Control.{Control}
use Rattle.block_order.specs.declared.control.Control.TheVariants.{Next, Goto, While, Do, EndLoop, Wait, End, Call, Back, BackTo}
use Rattle.block_order.specs.declared.frame.Frame.{Frame}
use Rattle.block_order.specs.declared.label.Label.TheVariants as label
use Rattle.block_order.specs.declared.program.ControlProgram.{ControlProgram}
use Rattle.block_order.specs.Order.{blocks, control_at}
use Rattle.block_order.specs.Labels.{room, labels_behind, counts, labels_ahead}
use Rattle.block_order.specs.Moves.{frame_at_block, place_behind, return_by}
use Rattle.block_order.specs.Steps.{Goes, Step, IsPlace, control_of_place}
use Rattle.block_order.proofs.LoudReaches.{AreLoud}
use Rattle.block_order.proofs.Moved.{jump_leads, exit_leads, head_leads, call_leads}
use Rattle.block_order.proofs.LabelsAhead.{labels_ahead-counts, wait_begins, end_alone}

-- A place whose running frame moves is a place.
place_moves : (tape : List ControlProgram) (f : Frame) (stack : List Frame) (block : ℕ) → IsPlace tape (f ∷ stack)
    → IsPlace tape (frame_at_block f block ∷ stack)
place_moves tape f [] block place = place
place_moves tape f (g ∷ stack) block place = place

-- If a block leads from a place to another list of frames, that is a place.
pub goes_stays : (tape : List ControlProgram) (f : Frame) (stack : List Frame) → IsPlace tape (f ∷ stack)
    → (c : Control) → control_at (blocks tape f.program) f.block ≡ Some c
    → (to : List Frame) → Goes tape (f ∷ stack) c to → IsPlace tape to
goes_stays tape f stack place Next is to e = subst (IsPlace tape) (sym e) (place_moves tape f stack (suc f.block) place)
goes_stays tape f stack place (Goto n) is to (inl e) =
    subst (IsPlace tape) (sym e) (place_moves tape f stack (suc f.block) place)
goes_stays tape f stack place (Goto n) is to (inr (k, may, e)) =
    let j = jump_leads tape k f stack to e in subst (IsPlace tape) (sym j.2) (place_moves tape f stack j.0 place)
goes_stays tape f stack place (While m) is to (inl e) =
    subst (IsPlace tape) (sym e) (place_moves tape f stack (suc f.block) place)
goes_stays tape f stack place (While m) is to (inr e) =
    let j = exit_leads tape f stack to e in subst (IsPlace tape) (sym j.2) (place_moves tape f stack (suc j.0) place)
goes_stays tape f stack place (Do m) is to e =
    subst (IsPlace tape) (sym e) (place_moves tape f stack (suc f.block) place)
goes_stays tape f stack place (EndLoop m) is to e =
    let j = head_leads tape f stack to e in subst (IsPlace tape) (sym j.2) (place_moves tape f stack j.0 place)
goes_stays tape f stack place (Wait code) is to e = absurd e
goes_stays tape f stack place End is to e = absurd e
goes_stays tape f stack place (Call q r) is to e =
    let j = call_leads q r f stack to e in subst (IsPlace tape) (sym j.3) (r, is, j.2, place)
goes_stays tape f [] place Back is to e = subst (IsPlace tape) (sym e) place
goes_stays tape f (g ∷ stack) place Back is to e = subst (IsPlace tape) (sym e) (go f.left)
  where
    go : (left : ℕ) → IsPlace tape (return_by left f (g ∷ stack))
    go zero = place_moves tape g stack (suc g.block) place.3
    go (suc left) = place
goes_stays tape f [] place (BackTo n) is to e =
    let j = jump_leads tape n f [] to e in subst (IsPlace tape) (sym j.2) place
goes_stays tape f (g ∷ stack) place (BackTo n) is to e =
    let j = jump_leads tape n g stack to e in subst (IsPlace tape) (sym j.2) (place_moves tape g stack j.0 place.3)

-- A step leads from place to place.
pub step_stays : (tape : List ControlProgram) (from to : List Frame) → IsPlace tape from → Step tape from to
    → IsPlace tape to
step_stays tape [] to place step = absurd place
step_stays tape (f ∷ stack) to place (c, is, goes) = goes_stays tape f stack place c is to goes

-- The place at the next block is a place.
pub next_stays : (tape : List ControlProgram) (from : List Frame) → IsPlace tape from → IsPlace tape (place_behind from)
next_stays tape [] place = absurd place
next_stays tape (f ∷ stack) place = place_moves tape f stack (suc f.block) place

-- The program of a path that stands at a wait counts.
pub wait_counts : (tape : List ControlProgram) → AreLoud tape → (f : Frame) (stack : List Frame) (code : ℕ)
    → control_at (blocks tape f.program) f.block ≡ Some (Wait code) → counts tape f.program stack ≡ true
wait_counts tape are f [] code is = refl
wait_counts tape are f (g ∷ stack) code is = are.waits f.program f.block code is

-- The program of a path that stands at an end counts.
end_counts : (tape : List ControlProgram) → AreLoud tape → (f : Frame) (stack : List Frame)
    → control_at (blocks tape f.program) f.block ≡ Some End → counts tape f.program stack ≡ true
end_counts tape are f [] is = refl
end_counts tape are f (g ∷ stack) is = are.ends f.program f.block is

-- At a wait the labels ahead begin with it, and passing it takes it away.
pub wait_first : (tape : List ControlProgram) → AreLoud tape → (place : List Frame) (code : ℕ)
    → control_of_place tape place ≡ Some (Wait code)
    → labels_ahead tape place ≡ label.Wait code ∷ labels_ahead tape (place_behind place)
wait_first tape are [] code is = absurd cc
wait_first tape are (f ∷ stack) code is =
    let e : counts tape f.program stack ≡ true = wait_counts tape are f stack code is in
    labels_ahead-counts tape f stack e
    ∙ (wait_begins tape (room stack) f.program f.block f.left code (labels_behind tape stack) is
    ∙ ap (λ ls. label.Wait code ∷ ls) (sym (labels_ahead-counts tape (frame_at_block f (suc f.block)) stack e)))

-- At an end the labels ahead are `End` alone.
pub end_only : (tape : List ControlProgram) → AreLoud tape → (place : List Frame) → control_of_place tape place ≡ Some End
    → labels_ahead tape place ≡ label.End ∷ []
end_only tape are [] is = absurd cc
end_only tape are (f ∷ stack) is =
    labels_ahead-counts tape f stack (end_counts tape are f stack is)
    ∙ end_alone tape (room stack) f.program f.block f.left (labels_behind tape stack) is
