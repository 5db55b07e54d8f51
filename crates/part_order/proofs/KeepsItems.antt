-- On an unforked tape each step leads on in the items, past no wait: an invariant of a path's
-- steps, a case for each kind of block. An item is a stretch, a wait or the new beginning of the
-- list; a stretch is the run of a program's blocks up to its next mark (a wait, an end, an M99
-- without a number or a call that leads to a wait or an end). For Standing.
use Rattle.std.proofs.Common.{◌≡◌, ℕ, zero, suc, ◌<◌, inl, inr, Bool, true, false, List, [], ◌∷◌, length, Some, Ok, refl, ap, sym, subst, ◌∙◌, arith}
use Rattle.block_order.specs.declared.control.Control.{Control}
use Rattle.block_order.specs.declared.control.Control.TheVariants.{Next, Goto, While, Do, EndLoop, Wait, End, Call, Back, BackTo}
use Rattle.block_order.specs.declared.frame.Frame.{Frame}
use Rattle.block_order.specs.declared.program.ControlProgram.{ControlProgram}
use Rattle.block_order.specs.Order.{blocks, control_at, IsLoop, Leads}
use Rattle.block_order.specs.Loud.{loud, mark_of}
use Rattle.block_order.specs.Labels.{room, counts, IsTarget, IsUnforked}
use Rattle.block_order.specs.Moves.{frame_at_block, place_behind, return_by, place_of_jump_back}
use Rattle.block_order.specs.Steps.{Goes, IsPlace, control_of_place}
use Rattle.block_order.proofs.LoudReaches.{AreLoud}
use Rattle.block_order.proofs.CallChains.{counts_below, main_below}
use Rattle.block_order.proofs.KeepsLabels.{Counts-from}
use Rattle.block_order.proofs.Searches.{loop_facts}
use Rattle.block_order.proofs.StepsStay.{wait_counts}
use Rattle.block_order.proofs.Moved.{jump_leads, exit_leads, head_leads, call_leads}
use Rattle.part_order.specs.Parts.{Stretch, Meets, Anew, Follows, behind_stretch, behind_wait, anew, stretch_at, items_after, items_ahead, path_items}
use Rattle.part_order.proofs.ItemsAhead.{items_ahead-counts, items_ahead-quiet, moves_kept, unmarked_next, call_opens, repeat_begins, last_returns, wait_begins}

-- The items ahead of the place follow n waits of the list.
abbrev pub Stands : List ControlProgram → ℕ → List Frame → Type 0
Stands tape n place = Follows (path_items tape) n (items_ahead tape place)

-- A place with the same items ahead stands in the same part.
same : (tape : List ControlProgram) (n : ℕ) (from to : List Frame) → items_ahead tape to ≡ items_ahead tape from → Stands tape n from → Stands tape n to
same tape n from to e s = subst (Follows (path_items tape) n) (sym e) s

-- A step that leaves a stretch behind stands in the same part.
leaves : (tape : List ControlProgram) (n p s : ℕ) (from to : List Frame) → items_ahead tape from ≡ Stretch p s ∷ items_ahead tape to
    → Stands tape n from → Stands tape n to
leaves tape n p s from to e st =
    behind_stretch n p s (items_ahead tape to) (subst (Follows (path_items tape) n) e st)

-- A step to the next block of the stretch keeps the items ahead.
next_kept : (tape : List ControlProgram) (f : Frame) (stack : List Frame) (c : Control)
    → control_at (blocks tape f.program) f.block ≡ Some c → mark_of (loud tape) c ≡ []
    → items_ahead tape (frame_at_block f (suc f.block) ∷ stack) ≡ items_ahead tape (f ∷ stack)
next_kept tape f stack c is none = moves_kept tape f stack (suc f.block) (λ _. unmarked_next tape f.program f.block c is none)

-- A jump keeps the items ahead: its target lies in the same stretch, or its program does not count.
jump_kept : (tape : List ControlProgram) → IsUnforked tape → (f : Frame) (stack : List Frame)
    → IsPlace tape (f ∷ stack) → (c : Control) → control_at (blocks tape f.program) f.block ≡ Some c
    → (target : ℕ) → IsTarget tape f.program f.block c target
    → items_ahead tape (frame_at_block f target ∷ stack) ≡ items_ahead tape (f ∷ stack)
jump_kept tape un f stack place c is target to =
    moves_kept tape f stack target (λ e. sym (un.jumps f.program f.block target c (Counts-from tape f stack place e) is to))

-- A step out of a loop keeps the items ahead.
exit_kept : (tape : List ControlProgram) → IsUnforked tape → (f : Frame) (stack : List Frame)
    → IsPlace tape (f ∷ stack) → (close : ℕ) → IsLoop (blocks tape f.program) f.block close
    → items_ahead tape (frame_at_block f (suc close) ∷ stack) ≡ items_ahead tape (f ∷ stack)
exit_kept tape un f stack place close loop =
    let facts = loop_facts (blocks tape f.program) f.block close loop in
    moves_kept tape f stack (suc close)
    (λ e. unmarked_next tape f.program close (EndLoop facts.name) facts.is_close refl
    ∙ sym (un.loops f.program f.block close (Counts-from tape f stack place e) loop))

-- A step back to a loop's head keeps the items ahead.
loop_kept : (tape : List ControlProgram) → IsUnforked tape → (f : Frame) (stack : List Frame)
    → IsPlace tape (f ∷ stack) → (head : ℕ) → IsLoop (blocks tape f.program) head f.block
    → items_ahead tape (frame_at_block f head ∷ stack) ≡ items_ahead tape (f ∷ stack)
loop_kept tape un f stack place head loop =
    moves_kept tape f stack head (λ e. un.loops f.program head f.block (Counts-from tape f stack place e) loop)

-- A call leads on in the items.
call_stands : (tape : List ControlProgram) → AreLoud tape → (n : ℕ) (f : Frame) (stack : List Frame) (q more : ℕ)
    → control_at (blocks tape f.program) f.block ≡ Some (Call q (suc more)) → length stack < 8
    → Stands tape n (f ∷ stack) → Stands tape n (record { program = q; block = 0; left = more } ∷ f ∷ stack)
call_stands tape are n f stack q more is few s = go (loud tape q) refl
  where
    inner : Frame
    inner = record { program = q; block = 0; left = more }

    go : (b : Bool) → loud tape q ≡ b → Stands tape n (inner ∷ f ∷ stack)
    go false e = same tape n (f ∷ stack) (inner ∷ f ∷ stack) (items_ahead-quiet tape inner (f ∷ stack) e) s
    go true e =
        let deep : room stack ≡ suc (room (f ∷ stack)) = omega arith in
        leaves tape n f.program (stretch_at tape f.program f.block) (f ∷ stack) (inner ∷ f ∷ stack)
        (items_ahead-counts tape f stack (counts_below tape are f stack q (suc more) is e)
        ∙ (call_opens tape (room stack) (room (f ∷ stack)) f.program f.block f.left q more (items_after tape stack) deep is e
        ∙ ap (λ xs. Stretch f.program (stretch_at tape f.program f.block) ∷ xs) (sym (items_ahead-counts tape inner (f ∷ stack) e)))) s

-- A return leads on in the items.
back_stands : (tape : List ControlProgram) → AreLoud tape → (n : ℕ) (f g : Frame) (stack : List Frame)
    → IsPlace tape (f ∷ g ∷ stack) → control_at (blocks tape f.program) f.block ≡ Some Back
    → (left : ℕ) → f.left ≡ left
    → Stands tape n (f ∷ g ∷ stack) → Stands tape n (return_by left f (g ∷ stack))
back_stands tape are n f g stack place is zero l s = go (loud tape f.program) refl
  where
    after : Frame
    after = frame_at_block g (suc g.block)

    go : (b : Bool) → loud tape f.program ≡ b → Stands tape n (after ∷ stack)
    go false e =
        same tape n (f ∷ g ∷ stack) (after ∷ stack)
        (next_kept tape g stack (Call f.program place.0) place.1 (rw e refl) ∙ sym (items_ahead-quiet tape f (g ∷ stack) e)) s
    go true e =
        leaves tape n f.program (stretch_at tape f.program f.block) (f ∷ g ∷ stack) (after ∷ stack)
        (items_ahead-counts tape f (g ∷ stack) e
        ∙ (rw l (last_returns tape (room (g ∷ stack)) f.program f.block (items_after tape (g ∷ stack)) is)
        ∙ ap (λ xs. Stretch f.program (stretch_at tape f.program f.block) ∷ xs)
        (sym (items_ahead-counts tape after stack (counts_below tape are g stack f.program place.0 place.1 e))))) s
back_stands tape are n f g stack place is (suc left) l s = go (loud tape f.program) refl
  where
    again : Frame
    again = record { program = f.program; block = 0; left = left }

    go : (b : Bool) → loud tape f.program ≡ b → Stands tape n (again ∷ g ∷ stack)
    go false e =
        same tape n (f ∷ g ∷ stack) (again ∷ g ∷ stack)
        (items_ahead-quiet tape again (g ∷ stack) e ∙ sym (items_ahead-quiet tape f (g ∷ stack) e)) s
    go true e =
        leaves tape n f.program (stretch_at tape f.program f.block) (f ∷ g ∷ stack) (again ∷ g ∷ stack)
        (items_ahead-counts tape f (g ∷ stack) e
        ∙ (rw l (repeat_begins tape (room (g ∷ stack)) f.program f.block left (items_after tape (g ∷ stack)) is)
        ∙ ap (λ xs. Stretch f.program (stretch_at tape f.program f.block) ∷ xs) (sym (items_ahead-counts tape again (g ∷ stack) e)))) s

-- A return to a sequence number (M99 P) keeps the items ahead.
back_to_kept : (tape : List ControlProgram) → AreLoud tape → IsUnforked tape → (f : Frame) (stack : List Frame)
    → IsPlace tape (f ∷ stack) → (k : ℕ) → control_at (blocks tape f.program) f.block ≡ Some (BackTo k)
    → (to : List Frame) → place_of_jump_back tape k (f ∷ stack) ≡ Ok to → items_ahead tape to ≡ items_ahead tape (f ∷ stack)
back_to_kept tape are un f [] place k is to e =
    let j = jump_leads tape k f [] to e in
    rw j.2 (jump_kept tape un f [] place (BackTo k) is j.0 (place.0, j.1))
back_to_kept tape are un f (g ∷ stack) place k is to e =
    let j = jump_leads tape k g stack to e in rw j.2 (go j.0 j.1 (loud tape f.program) refl)
  where
    go : (target : ℕ) → Leads (blocks tape g.program) g.block k target → (b : Bool) → loud tape f.program ≡ b
        → items_ahead tape (frame_at_block g target ∷ stack) ≡ items_ahead tape (f ∷ g ∷ stack)
    go target leads true noisy =
        absurd (main_below tape are un f g stack place noisy (un.backs f.program f.block k noisy is))
    go target leads false quiet =
        jump_kept tape un g stack place.3 (Call f.program place.0) place.1 target (quiet, f.block, k, is, leads)
        ∙ sym (items_ahead-quiet tape f (g ∷ stack) quiet)

-- A return of the main program begins the list anew.
restart_stands : (tape : List ControlProgram) (n : ℕ) (f : Frame) → IsPlace tape (f ∷ [])
    → control_at (blocks tape f.program) f.block ≡ Some Back
    → (to : List Frame) → Goes tape (f ∷ []) Back to → Stands tape n (f ∷ []) → Stands tape n to
restart_stands tape n f place is to e s =
    let here : items_ahead tape (f ∷ []) ≡ Stretch f.program (stretch_at tape f.program f.block) ∷ Anew ∷ [] =
    rw place.1 (last_returns tape 8 f.program f.block (Anew ∷ []) is) in
    let there : path_items tape ≡ items_ahead tape to = rw (e, place.0, place.1) refl in
    subst (Follows (path_items tape) n) there
    (anew n [] (behind_stretch n f.program (stretch_at tape f.program f.block) (Anew ∷ [])
    (subst (Follows (path_items tape) n) here s)))

-- Each step that a block may lead to leads on in the items.
pub goes_stands : (tape : List ControlProgram) → AreLoud tape → IsUnforked tape → (n : ℕ) (f : Frame) (stack : List Frame)
    → IsPlace tape (f ∷ stack) → (c : Control) → control_at (blocks tape f.program) f.block ≡ Some c
    → (to : List Frame) → Goes tape (f ∷ stack) c to → Stands tape n (f ∷ stack) → Stands tape n to
goes_stands tape are un n f stack place Next is to e s =
    same tape n (f ∷ stack) to (rw e (next_kept tape f stack Next is refl)) s
goes_stands tape are un n f stack place (Goto k) is to (inl e) s =
    same tape n (f ∷ stack) to (rw e (next_kept tape f stack (Goto k) is refl)) s
goes_stands tape are un n f stack place (Goto k) is to (inr (number, may, e)) s =
    let j = jump_leads tape number f stack to e in
    same tape n (f ∷ stack) to (rw j.2 (jump_kept tape un f stack place (Goto k) is j.0 (number, may, j.1))) s
goes_stands tape are un n f stack place (While m) is to (inl e) s =
    same tape n (f ∷ stack) to (rw e (next_kept tape f stack (While m) is refl)) s
goes_stands tape are un n f stack place (While m) is to (inr e) s =
    let j = exit_leads tape f stack to e in
    same tape n (f ∷ stack) to (rw j.2 (exit_kept tape un f stack place j.0 j.1)) s
goes_stands tape are un n f stack place (Do m) is to e s =
    same tape n (f ∷ stack) to (rw e (next_kept tape f stack (Do m) is refl)) s
goes_stands tape are un n f stack place (EndLoop m) is to e s =
    let j = head_leads tape f stack to e in
    same tape n (f ∷ stack) to (rw j.2 (loop_kept tape un f stack place j.0 j.1)) s
goes_stands tape are un n f stack place (Wait code) is to e s = absurd e
goes_stands tape are un n f stack place End is to e s = absurd e
goes_stands tape are un n f stack place (Call q r) is to e s =
    let j = call_leads q r f stack to e in
    subst (Stands tape n) (sym j.3)
    (call_stands tape are n f stack q j.0 (is ∙ ap (λ k. Some (Call q k)) j.1) j.2 s)
goes_stands tape are un n f [] place Back is to e s = restart_stands tape n f place is to e s
goes_stands tape are un n f (g ∷ stack) place Back is to e s =
    subst (Stands tape n) (sym e) (back_stands tape are n f g stack place is f.left refl s)
goes_stands tape are un n f stack place (BackTo k) is to e s =
    same tape n (f ∷ stack) to (back_to_kept tape are un f stack place k is to e) s

-- Past a wait the path stands one part further.
pub passed_stands : (tape : List ControlProgram) → AreLoud tape → (n code : ℕ) (place : List Frame)
    → control_of_place tape place ≡ Some (Wait code) → Stands tape n place → Stands tape (suc n) (place_behind place)
passed_stands tape are n code [] is s = absurd cc
passed_stands tape are n code (f ∷ stack) is s =
    let after = frame_at_block f (suc f.block) in
    let own = stretch_at tape f.program f.block in
    let e : counts tape f.program stack ≡ true = wait_counts tape are f stack code is in
    let here : items_ahead tape (f ∷ stack) ≡ Stretch f.program own ∷ Meets ∷ items_ahead tape (after ∷ stack) =
    items_ahead-counts tape f stack e
    ∙ (wait_begins tape (room stack) f.program f.block f.left code (items_after tape stack) is
    ∙ ap (λ xs. Stretch f.program own ∷ Meets ∷ xs) (sym (items_ahead-counts tape after stack e))) in
    behind_wait n (items_ahead tape (after ∷ stack))
    (behind_stretch n f.program own (Meets ∷ items_ahead tape (after ∷ stack)) (subst (Follows (path_items tape) n) here s))
