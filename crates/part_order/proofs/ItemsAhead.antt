-- The items ahead of a place, as its running frame moves: the stretches and waits to come. A frame
-- is an open program: its number, its block and its repeats left. It counts if it is that of the
-- main program or of a loud one, which has a wait or an end or calls one that has. A mark is a
-- wait, an end, an M99 without a number or a call of a loud program, a stretch the run of blocks up
-- to and with one. For KeepsItems and Standing.
use Rattle.std.proofs.Common.{◌≡◌, ℕ, zero, suc, ◌+◌, Bool, true, false, List, [], ◌∷◌, ◌++◌, length, take, drop, Some, refl, ap, sym, ◌∙◌, arith}
use Rattle.std.proofs.lemmas.List.{length-append}
use Rattle.block_order.specs.declared.control.Control.{Control}
use Rattle.block_order.specs.declared.control.Control.TheVariants.{Wait, Call, Back}
use Rattle.block_order.specs.declared.frame.Frame.{Frame}
use Rattle.block_order.specs.declared.label.Mark.{Mark}
use Rattle.block_order.specs.declared.label.Mark.TheVariants as mark
use Rattle.block_order.specs.declared.program.ControlBlock.{ControlBlock}
use Rattle.block_order.specs.declared.program.ControlProgram.{ControlProgram}
use Rattle.block_order.specs.Order.{blocks, control_at}
use Rattle.block_order.specs.Loud.{loud, mark_of, marks, stretch}
use Rattle.block_order.specs.Labels.{room, counts}
use Rattle.block_order.specs.Moves.{frame_at_block}
use Rattle.block_order.proofs.MarksFrom.{marks-at, marks-drop}
use Rattle.part_order.specs.Parts.{Item, Stretch, Meets, times, items, items_of_call, items_from, stretch_at, items_after, items_ahead}

-- The items ahead of a frame that counts are its own, and then what comes once it has returned.
pub items_ahead-counts : (tape : List ControlProgram) (f : Frame) (stack : List Frame) → counts tape f.program stack ≡ true
    → items_ahead tape (f ∷ stack)
    ≡ items_from tape (room stack) f.program (stretch_at tape f.program f.block) f.left (items_after tape stack)
items_ahead-counts tape f stack e = rw e

-- The items ahead of a frame that does not count, of a quiet program that was called, are those of
-- its callers' frames.
pub items_ahead-quiet : (tape : List ControlProgram) (f : Frame) (stack : List Frame) → counts tape f.program stack ≡ false
    → items_ahead tape (f ∷ stack) ≡ items_ahead tape stack
items_ahead-quiet tape f stack e = rw e

-- Before the next block stand the marks before a block and its own.
stretch_next : (ld : ℕ → Bool) (bs : List ControlBlock) (i : ℕ) (c : Control) → control_at bs i ≡ Some c
    → stretch ld bs (suc i) ≡ length (mark_of ld c) + stretch ld bs i
stretch_next ld [] i c e = absurd cc
stretch_next ld (b ∷ bs) zero c e =
    let same : b.control ≡ c = cc in
    length-append (mark_of ld b.control) [] ∙ ap (λ x. length (mark_of ld x) + 0) same
stretch_next ld (b ∷ bs) (suc i) c e =
    let above = stretch_next ld bs i c e in
    let long = length-append (mark_of ld b.control) (marks ld (take (suc i) bs)) in
    let short = length-append (mark_of ld b.control) (marks ld (take i bs)) in
    omega arith

-- A running frame that stays in its stretch keeps the items ahead; a frame that does not count may
-- move anywhere.
pub moves_kept : (tape : List ControlProgram) (f : Frame) (stack : List Frame) (block : ℕ)
    → (counts tape f.program stack ≡ true → stretch_at tape f.program block ≡ stretch_at tape f.program f.block)
    → items_ahead tape (frame_at_block f block ∷ stack) ≡ items_ahead tape (f ∷ stack)
moves_kept tape f stack block same = go (counts tape f.program stack) refl
  where
    go : (b : Bool) → counts tape f.program stack ≡ b → items_ahead tape (frame_at_block f block ∷ stack) ≡ items_ahead tape (f ∷ stack)
    go true e =
        rw e (ap (λ k. items_from tape (room stack) f.program k f.left (items_after tape stack)) (same e))
    go false e = rw e refl

-- The block after one that is no mark is in the same stretch.
pub unmarked_next : (tape : List ControlProgram) (p block : ℕ) (c : Control) → control_at (blocks tape p) block ≡ Some c
    → mark_of (loud tape) c ≡ [] → stretch_at tape p (suc block) ≡ stretch_at tape p block
unmarked_next tape p block c is none =
    let next = stretch_next (loud tape) (blocks tape p) block c is in
    let none' = ap length none in
    omega arith

-- The block behind a mark lies in the next stretch.
marked_next : (tape : List ControlProgram) (p block : ℕ) (c : Control) (m : Mark) → control_at (blocks tape p) block ≡ Some c
    → mark_of (loud tape) c ≡ m ∷ [] → stretch_at tape p (suc block) ≡ suc (stretch_at tape p block)
marked_next tape p block c m is one =
    let next = stretch_next (loud tape) (blocks tape p) block c is in
    let one' = ap length one in
    omega arith

-- The marks from a block's stretch on begin with the block's own.
marks_here : (tape : List ControlProgram) (p block : ℕ) (c : Control) → control_at (blocks tape p) block ≡ Some c
    → drop (stretch_at tape p block) (marks (loud tape) (blocks tape p))
    ≡ mark_of (loud tape) c ++ drop (stretch_at tape p (suc block)) (marks (loud tape) (blocks tape p))
marks_here tape p block c is =
    sym (marks-drop (loud tape) (blocks tape p) block)
    ∙ (marks-at (loud tape) (blocks tape p) block c is
    ∙ ap (λ ms. mark_of (loud tape) c ++ ms) (marks-drop (loud tape) (blocks tape p) (suc block)))

-- The items of a program from a stretch on begin with that stretch.
pub stretch_first : (tape : List ControlProgram) (called : ℕ → List Item → List Item) (p s : ℕ) (ms : List Mark) (rest : List Item)
    → (xs : List Item) × (items called p s ms rest ≡ Stretch p s ∷ xs)
stretch_first tape called p s [] rest = ([], refl)
stretch_first tape called p s (mark.Wait code ∷ ms) rest = (Meets ∷ items called p (suc s) ms rest, refl)
stretch_first tape called p s (mark.End ∷ ms) rest = ([], refl)
stretch_first tape called p s (mark.Call q r ∷ ms) rest = (times r (called q) (items called p (suc s) ms rest), refl)
stretch_first tape called p s (mark.Back ∷ ms) rest = (rest, refl)
stretch_first tape called p s (mark.Past ∷ ms) rest = ([], refl)

-- At a call of a loud program the items are its stretch, those of the called program, and those
-- after the call.
pub call_opens : (tape : List ControlProgram) (n m p block left q more : ℕ) (rest : List Item) → n ≡ suc m
    → control_at (blocks tape p) block ≡ Some (Call q (suc more)) → loud tape q ≡ true
    → items_from tape n p (stretch_at tape p block) left rest
    ≡ Stretch p (stretch_at tape p block)
    ∷ items_from tape m q 0 more (items_from tape n p (stretch_at tape p (suc block)) left rest)
unfolding items_of_call
call_opens tape n m p block left q more rest e is noisy =
    let one : mark_of (loud tape) (Call q (suc more)) ≡ mark.Call q (suc more) ∷ [] = rw noisy refl in
    rw (
      e,
      marks_here tape p block (Call q (suc more)) is,
      marked_next tape p block (Call q (suc more)) (mark.Call q (suc more)) is one,
      noisy,
    ) refl

-- At an M99 with a repeat left the items are its stretch and those of the program begun anew.
pub repeat_begins : (tape : List ControlProgram) (n p block left : ℕ) (rest : List Item)
    → control_at (blocks tape p) block ≡ Some Back
    → items_from tape n p (stretch_at tape p block) (suc left) rest
    ≡ Stretch p (stretch_at tape p block) ∷ items_from tape n p 0 left rest
unfolding items_of_call
repeat_begins tape n p block left rest is = rw (marks_here tape p block Back is) refl

-- At an M99 with no repeat left the items are its stretch and what comes after the return.
pub last_returns : (tape : List ControlProgram) (n p block : ℕ) (rest : List Item)
    → control_at (blocks tape p) block ≡ Some Back
    → items_from tape n p (stretch_at tape p block) 0 rest ≡ Stretch p (stretch_at tape p block) ∷ rest
last_returns tape n p block rest is = rw (marks_here tape p block Back is) refl

-- At a wait the items are its stretch, the wait, and those after it.
pub wait_begins : (tape : List ControlProgram) (n p block left code : ℕ) (rest : List Item)
    → control_at (blocks tape p) block ≡ Some (Wait code)
    → items_from tape n p (stretch_at tape p block) left rest
    ≡ Stretch p (stretch_at tape p block) ∷ Meets ∷ items_from tape n p (stretch_at tape p (suc block)) left rest
wait_begins tape n p block left code rest is =
    rw (marks_here tape p block (Wait code) is, marked_next tape p block (Wait code) (mark.Wait code) is refl) refl
