-- The labels ahead of a place, as its running frame moves. For the proofs of the law of one path:
-- KeepsLabels and StepsStay. A program counts if its labels come: the main one does, and each loud
-- one, which has a wait or an end or calls one that has. A mark is a block at which a program's
-- labels change.
use Rattle.std.proofs.Common.{◌≡◌, ℕ, suc, Bool, true, false, List, [], ◌∷◌, ◌++◌, drop, Some, refl, ap, sym, ◌∙◌}
use Rattle.block_order.specs.declared.control.Control.{Control}
use Rattle.block_order.specs.declared.control.Control.TheVariants.{Wait, End, Call, Back}
use Rattle.block_order.specs.declared.frame.Frame.{Frame}
use Rattle.block_order.specs.declared.label.Label.{Label}
use Rattle.block_order.specs.declared.label.Label.TheVariants as label
use Rattle.block_order.specs.declared.label.Mark.{Mark}
use Rattle.block_order.specs.declared.program.ControlProgram.{ControlProgram}
use Rattle.block_order.specs.Order.{blocks, control_at}
use Rattle.block_order.specs.Loud.{loud, mark_of, marks, stretch}
use Rattle.block_order.specs.Labels.{times, labels, labels_of_call, frame_labels, room, labels_behind, counts, labels_ahead}
use Rattle.block_order.specs.Moves.{frame_at_block}
use Rattle.block_order.proofs.MarksFrom.{marks-at, same_stretch}

-- If the running program counts, the labels ahead begin with its own.
pub labels_ahead-counts : (tape : List ControlProgram) (f : Frame) (stack : List Frame) → counts tape f.program stack ≡ true
    → labels_ahead tape (f ∷ stack) ≡ frame_labels tape (room stack) f.program f.block f.left (labels_behind tape stack)
labels_ahead-counts tape f stack e = rw e

-- If the running program does not count, the labels ahead are those of its callers' frames.
pub labels_ahead-quiet : (tape : List ControlProgram) (f : Frame) (stack : List Frame) → counts tape f.program stack ≡ false
    → labels_ahead tape (f ∷ stack) ≡ labels_ahead tape stack
labels_ahead-quiet tape f stack e = rw e

-- The marks of the program from this block on.
abbrev pub from : List ControlProgram → ℕ → ℕ → List Mark
from tape p block = marks (loud tape) (drop block (blocks tape p))

-- A running frame that moves to a block with the same marks from there on keeps the labels ahead; a
-- frame that does not count may move anywhere.
pub moves_kept : (tape : List ControlProgram) (f : Frame) (stack : List Frame) (block : ℕ)
    → (counts tape f.program stack ≡ true → from tape f.program block ≡ from tape f.program f.block)
    → labels_ahead tape (frame_at_block f block ∷ stack) ≡ labels_ahead tape (f ∷ stack)
moves_kept tape f stack block same = go (counts tape f.program stack) refl
  where
    go : (b : Bool) → counts tape f.program stack ≡ b → labels_ahead tape (frame_at_block f block ∷ stack) ≡ labels_ahead tape (f ∷ stack)
    go true e =
        rw e (ap (λ ms. labels (λ q k. labels_of_call tape (room stack) q k) ms
        (times f.left (λ k. labels_of_call tape (suc (room stack)) f.program k) (labels_behind tape stack))) (same e))
    go false e = rw e refl

-- Past a block that is no mark the marks ahead stay.
pub from-next : (tape : List ControlProgram) (p block : ℕ) (c : Control) → control_at (blocks tape p) block ≡ Some c
    → mark_of (loud tape) c ≡ []
    → from tape p (suc block) ≡ from tape p block
from-next tape p block c is none =
    sym (marks-at (loud tape) (blocks tape p) block c is ∙ ap (λ ms. ms ++ from tape p (suc block)) none)

-- A jump within a stretch keeps the marks ahead.
pub from-jump : (tape : List ControlProgram) (p i j : ℕ)
    → stretch (loud tape) (blocks tape p) i ≡ stretch (loud tape) (blocks tape p) j
    → from tape p j ≡ from tape p i
from-jump tape p i j e = sym (same_stretch (loud tape) (blocks tape p) i j e)

-- At a call of a loud program the labels of the frame are those of the called program and, behind
-- them, those from the next block on.
pub call_opens : (tape : List ControlProgram) (n m p block left q more : ℕ) (rest : List Label) → n ≡ suc m
    → control_at (blocks tape p) block ≡ Some (Call q (suc more)) → loud tape q ≡ true
    → frame_labels tape m q 0 more (frame_labels tape n p (suc block) left rest) ≡ frame_labels tape n p block left rest
unfolding labels_of_call
call_opens tape n m p block left q more rest e is noisy =
    rw (e, marks-at (loud tape) (blocks tape p) block (Call q (suc more)) is, noisy) refl

-- At an M99 with a repeat left the labels of the frame are those of the program begun anew.
pub repeat_begins : (tape : List ControlProgram) (n p block left : ℕ) (rest : List Label)
    → control_at (blocks tape p) block ≡ Some Back
    → frame_labels tape n p 0 left rest ≡ frame_labels tape n p block (suc left) rest
unfolding labels_of_call
repeat_begins tape n p block left rest is = rw (marks-at (loud tape) (blocks tape p) block Back is) refl

-- At an M99 with no repeat left the labels of the frame are those behind it.
pub last_returns : (tape : List ControlProgram) (n p block : ℕ) (rest : List Label)
    → control_at (blocks tape p) block ≡ Some Back
    → frame_labels tape n p block 0 rest ≡ rest
last_returns tape n p block rest is = rw (marks-at (loud tape) (blocks tape p) block Back is) refl

-- At a wait the labels of the frame begin with that wait.
pub wait_begins : (tape : List ControlProgram) (n p block left code : ℕ) (rest : List Label)
    → control_at (blocks tape p) block ≡ Some (Wait code)
    → frame_labels tape n p block left rest ≡ label.Wait code ∷ frame_labels tape n p (suc block) left rest
wait_begins tape n p block left code rest is = rw (marks-at (loud tape) (blocks tape p) block (Wait code) is) refl

-- At an end the labels of the frame are `End` alone.
pub end_alone : (tape : List ControlProgram) (n p block left : ℕ) (rest : List Label)
    → control_at (blocks tape p) block ≡ Some End
    → frame_labels tape n p block left rest ≡ label.End ∷ []
end_alone tape n p block left rest is = rw (marks-at (loud tape) (blocks tape p) block End is) refl
