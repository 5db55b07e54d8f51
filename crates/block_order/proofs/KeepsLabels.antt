-- On an unforked tape each step keeps the labels ahead, but for an M99 of the main program, at
-- which the whole list begins anew. For OnePath. A program is loud if it has a wait or an end, or
-- calls one that has. A mark is a block at which a program's labels change.
use Rattle.std.proofs.Common.{◌≡◌, ℕ, zero, suc, ◌<◌, inl, inr, Bool, true, false, List, [], ◌∷◌, length, Some, Ok, refl, ap, sym, subst, ◌∙◌, arith}
use Rattle.block_order.specs.declared.control.Control.{Control}
use Rattle.block_order.specs.declared.control.Control.TheVariants.{Next, Goto, While, Do, EndLoop, Wait, End, Call, Back, BackTo}
use Rattle.block_order.specs.declared.frame.Frame.{Frame}
use Rattle.block_order.specs.declared.label.Label.TheVariants as label
use Rattle.block_order.specs.declared.program.ControlProgram.{ControlProgram}
use Rattle.block_order.specs.Order.{blocks, control_at, IsLoop, Leads}
use Rattle.block_order.specs.Loud.{loud, mark_of}
use Rattle.block_order.specs.Labels.{room, labels_behind, counts, IsTarget, Counts, IsUnforked}
use Rattle.block_order.specs.Moves.{frame_at_block, return_by, place_of_jump_back}
use Rattle.block_order.specs.Steps.{Goes, IsPlace, Kept, Same}
use Rattle.block_order.proofs.LoudReaches.{AreLoud}
use Rattle.block_order.proofs.CallChains.{counts_below, main_below}
use Rattle.block_order.proofs.Searches.{loop_facts}
use Rattle.block_order.proofs.Moved.{jump_leads, exit_leads, head_leads, call_leads}
use Rattle.block_order.proofs.LabelsAhead.{labels_ahead-counts, labels_ahead-quiet, moves_kept, from-next, from-jump, call_opens, repeat_begins, last_returns}

-- If the running program's labels come, it is the main program or loud.
pub Counts-from : (tape : List ControlProgram) (f : Frame) (stack : List Frame) → IsPlace tape (f ∷ stack)
    → counts tape f.program stack ≡ true → Counts tape f.program
Counts-from tape f [] place e = inl place.0
Counts-from tape f (g ∷ stack) place e = inr e

-- The next block, behind one that is no mark, keeps the labels ahead.
next_kept : (tape : List ControlProgram) (f : Frame) (stack : List Frame) (c : Control)
    → control_at (blocks tape f.program) f.block ≡ Some c → mark_of (loud tape) c ≡ []
    → Same tape f stack (frame_at_block f (suc f.block) ∷ stack)
next_kept tape f stack c is none =
    moves_kept tape f stack (suc f.block) (λ _. from-next tape f.program f.block c is none)

-- A jump keeps the labels ahead: its target lies in the same stretch, or its program does not
-- count.
jump_kept : (tape : List ControlProgram) → IsUnforked tape → (f : Frame) (stack : List Frame)
    → IsPlace tape (f ∷ stack) → (c : Control) → control_at (blocks tape f.program) f.block ≡ Some c
    → (target : ℕ) → IsTarget tape f.program f.block c target
    → Same tape f stack (frame_at_block f target ∷ stack)
jump_kept tape un f stack place c is target to =
    moves_kept tape f stack target
    (λ e. from-jump tape f.program f.block target
    (un.jumps f.program f.block target c (Counts-from tape f stack place e) is to))

-- Leaving a loop from its head keeps the labels ahead.
exit_kept : (tape : List ControlProgram) → IsUnforked tape → (f : Frame) (stack : List Frame)
    → IsPlace tape (f ∷ stack) → (close : ℕ) → IsLoop (blocks tape f.program) f.block close
    → Same tape f stack (frame_at_block f (suc close) ∷ stack)
exit_kept tape un f stack place close loop =
    let facts = loop_facts (blocks tape f.program) f.block close loop in
    moves_kept tape f stack (suc close)
    (λ e. from-next tape f.program close (EndLoop facts.name) facts.is_close refl
    ∙ from-jump tape f.program f.block close (un.loops f.program f.block close (Counts-from tape f stack place e) loop))

-- Going from the end of a loop to its head keeps the labels ahead.
loop_kept : (tape : List ControlProgram) → IsUnforked tape → (f : Frame) (stack : List Frame)
    → IsPlace tape (f ∷ stack) → (head : ℕ) → IsLoop (blocks tape f.program) head f.block
    → Same tape f stack (frame_at_block f head ∷ stack)
loop_kept tape un f stack place head loop =
    moves_kept tape f stack head
    (λ e. sym (from-jump tape f.program head f.block
    (un.loops f.program head f.block (Counts-from tape f stack place e) loop)))

-- A call keeps the labels ahead.
call_kept : (tape : List ControlProgram) → AreLoud tape → (f : Frame) (stack : List Frame) (q more : ℕ)
    → control_at (blocks tape f.program) f.block ≡ Some (Call q (suc more))
    → length stack < 8
    → Same tape f stack (record { program = q; block = 0; left = more } ∷ f ∷ stack)
call_kept tape are f stack q more is few = go (loud tape q) refl
  where
    go : (b : Bool) → loud tape q ≡ b → Same tape f stack (record { program = q; block = 0; left = more } ∷ f ∷ stack)
    go false e = labels_ahead-quiet tape (record { program = q; block = 0; left = more }) (f ∷ stack) e
    go true e =
        let deep : room stack ≡ suc (room (f ∷ stack)) = omega arith in
        labels_ahead-counts tape (record { program = q; block = 0; left = more }) (f ∷ stack) e
        ∙ (call_opens tape (room stack) (room (f ∷ stack)) f.program f.block f.left q more (labels_behind tape stack) deep is e
        ∙ sym (labels_ahead-counts tape f stack (counts_below tape are f stack q (suc more) is e)))

-- The return of a program with callers keeps the labels ahead, with whatever repeats.
back_kept : (tape : List ControlProgram) → AreLoud tape → (f g : Frame) (stack : List Frame)
    → IsPlace tape (f ∷ g ∷ stack) → control_at (blocks tape f.program) f.block ≡ Some Back
    → (left : ℕ) → f.left ≡ left
    → Same tape f (g ∷ stack) (return_by left f (g ∷ stack))
back_kept tape are f g stack place is zero l = go (loud tape f.program) refl
  where
    go : (b : Bool) → loud tape f.program ≡ b → Same tape f (g ∷ stack) (frame_at_block g (suc g.block) ∷ stack)
    go false e =
        next_kept tape g stack (Call f.program place.0) place.1 (rw e refl) ∙ sym (labels_ahead-quiet tape f (g ∷ stack) e)
    go true e =
        labels_ahead-counts tape (frame_at_block g (suc g.block)) stack (counts_below tape are g stack f.program place.0 place.1 e)
        ∙ sym (labels_ahead-counts tape f (g ∷ stack) e
        ∙ (rw l (last_returns tape (room (g ∷ stack)) f.program f.block (labels_behind tape (g ∷ stack)) is)))
back_kept tape are f g stack place is (suc left) l = go (loud tape f.program) refl
  where
    go : (b : Bool) → loud tape f.program ≡ b
        → Same tape f (g ∷ stack) (record { program = f.program; block = 0; left = left } ∷ g ∷ stack)
    go false e =
        labels_ahead-quiet tape (record { program = f.program; block = 0; left = left }) (g ∷ stack) e
        ∙ sym (labels_ahead-quiet tape f (g ∷ stack) e)
    go true e =
        labels_ahead-counts tape (record { program = f.program; block = 0; left = left }) (g ∷ stack) e
        ∙ (repeat_begins tape (room (g ∷ stack)) f.program f.block left (labels_behind tape (g ∷ stack)) is
        ∙ sym (labels_ahead-counts tape f (g ∷ stack) e ∙ rw l refl))

-- M99 P, which leads to a block of the caller, keeps the labels ahead.
back_to_kept : (tape : List ControlProgram) → AreLoud tape → IsUnforked tape → (f : Frame) (stack : List Frame)
    → IsPlace tape (f ∷ stack) → (n : ℕ) → control_at (blocks tape f.program) f.block ≡ Some (BackTo n)
    → (to : List Frame) → place_of_jump_back tape n (f ∷ stack) ≡ Ok to → Same tape f stack to
back_to_kept tape are un f [] place n is to e =
    let j = jump_leads tape n f [] to e in
    subst (Same tape f []) (sym j.2) (jump_kept tape un f [] place (BackTo n) is j.0 (place.0, j.1))
back_to_kept tape are un f (g ∷ stack) place n is to e =
    let j = jump_leads tape n g stack to e in
    subst (Same tape f (g ∷ stack)) (sym j.2) (go j.0 j.1 (loud tape f.program) refl)
  where
    go : (target : ℕ) → Leads (blocks tape g.program) g.block n target → (b : Bool) → loud tape f.program ≡ b
        → Same tape f (g ∷ stack) (frame_at_block g target ∷ stack)
    go target leads true noisy =
        absurd (main_below tape are un f g stack place noisy (un.backs f.program f.block n noisy is))
    go target leads false quiet =
        jump_kept tape un g stack place.3 (Call f.program place.0) place.1 target (quiet, f.block, n, is, leads)
        ∙ sym (labels_ahead-quiet tape f (g ∷ stack) quiet)

-- M99 of the main program begins the list of labels anew.
restart_kept : (tape : List ControlProgram) (f : Frame) → IsPlace tape (f ∷ [])
    → control_at (blocks tape f.program) f.block ≡ Some Back
    → (to : List Frame) → Goes tape (f ∷ []) Back to → Kept tape f [] Back to
restart_kept tape f place is to e = (
  rw place.1 (last_returns tape 8 f.program f.block (label.Again ∷ []) is),
  rw (e, place.0, place.1) refl,
)

-- A step of a block of any control does to the labels ahead what `Kept` says.
pub keeps : (tape : List ControlProgram) → AreLoud tape → IsUnforked tape → (f : Frame) (stack : List Frame)
    → IsPlace tape (f ∷ stack) → (c : Control) → control_at (blocks tape f.program) f.block ≡ Some c
    → (to : List Frame) → Goes tape (f ∷ stack) c to → Kept tape f stack c to
keeps tape are un f stack place Next is to e = subst (Same tape f stack) (sym e) (next_kept tape f stack Next is refl)
keeps tape are un f stack place (Goto n) is to (inl e) =
    subst (Same tape f stack) (sym e) (next_kept tape f stack (Goto n) is refl)
keeps tape are un f stack place (Goto n) is to (inr (k, may, e)) =
    let j = jump_leads tape k f stack to e in
    subst (Same tape f stack) (sym j.2) (jump_kept tape un f stack place (Goto n) is j.0 (k, may, j.1))
keeps tape are un f stack place (While m) is to (inl e) =
    subst (Same tape f stack) (sym e) (next_kept tape f stack (While m) is refl)
keeps tape are un f stack place (While m) is to (inr e) =
    let j = exit_leads tape f stack to e in subst (Same tape f stack) (sym j.2) (exit_kept tape un f stack place j.0 j.1)
keeps tape are un f stack place (Do m) is to e =
    subst (Same tape f stack) (sym e) (next_kept tape f stack (Do m) is refl)
keeps tape are un f stack place (EndLoop m) is to e =
    let j = head_leads tape f stack to e in subst (Same tape f stack) (sym j.2) (loop_kept tape un f stack place j.0 j.1)
keeps tape are un f stack place (Wait code) is to e = absurd e
keeps tape are un f stack place End is to e = absurd e
keeps tape are un f stack place (Call q r) is to e =
    let j = call_leads q r f stack to e in
    subst (Same tape f stack) (sym j.3) (call_kept tape are f stack q j.0 (is ∙ ap (λ k. Some (Call q k)) j.1) j.2)
keeps tape are un f [] place Back is to e = restart_kept tape f place is to e
keeps tape are un f (g ∷ stack) place Back is to e =
    subst (Same tape f (g ∷ stack)) (sym e) (back_kept tape are f g stack place is f.left refl)
keeps tape are un f stack place (BackTo n) is to e = back_to_kept tape are un f stack place n is to e
