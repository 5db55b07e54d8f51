-- The parts of a path: the blocks that its list has between one wait and the next, and those of the
-- quiet programs that are called there. Which block runs there depends on the variables; which
-- block may run there does not. A program is loud if it, or one that it calls, has a wait or an
-- end; others are quiet. A mark is a wait, an end, an M99 without a number or a call of a loud
-- program. A stretch is the run of blocks, of the main program or a loud one, up to and with the
-- next mark. The list has stretches and waits, with the calls of loud programs unfolded.
use Rattle.std.specs.Prelude.{◌≡◌, ℕ, zero, suc, ◌+◌, ◌<◌, false, List, [], ◌∷◌, drop, Some, if◌then◌else◌}
use Rattle.block_order.specs.declared.control.Control.TheVariants.{Wait, Call}
use Rattle.block_order.specs.declared.frame.Frame.{Frame}
use Rattle.block_order.specs.declared.label.Mark.{Mark}
use Rattle.block_order.specs.declared.label.Mark.TheVariants as mark
use Rattle.block_order.specs.declared.program.ControlProgram.{ControlProgram}
use Rattle.block_order.specs.Order.{blocks, control_at}
use Rattle.block_order.specs.Loud.{loud, marks, stretch}
use Rattle.block_order.specs.Labels.{room, counts, start}
use Rattle.block_order.specs.Steps.{Step, control_of_place, place_behind}

-- What stands in the list: a stretch of a program, a wait, or that the list begins anew.
pub data Item : Type 0 where
  -- A stretch: the program's O number, and the number of the stretch in it, from 0.
  Stretch : (program number : ℕ) → Item
  -- A wait.
  Meets : Item
  -- The main program returns, and the list begins anew.
  Anew : Item

-- The items that f puts before others, put n times before `rest`.
abbrev pub times : ℕ → (List Item → List Item) → List Item → List Item
times zero f rest = rest
times (suc n) f rest = f (times n f rest)

-- The items of these marks of a program, from the stretch of this number on and up to the first
-- mark that ends the path or returns. `called` gives those of a called program, and `rest` follows
-- after a return. Each mark ends a stretch; behind the last mark there is one stretch more.
abbrev pub items : (ℕ → List Item → List Item) → ℕ → ℕ → List Mark → List Item → List Item
items called program number [] rest = Stretch program number ∷ []
items called program number (mark.Wait code ∷ ms) rest =
    Stretch program number ∷ Meets ∷ items called program (suc number) ms rest
items called program number (mark.End ∷ ms) rest = Stretch program number ∷ []
items called program number (mark.Call q repeats ∷ ms) rest =
    Stretch program number ∷ times repeats (called q) (items called program (suc number) ms rest)
items called program number (mark.Back ∷ ms) rest = Stretch program number ∷ rest
items called program number (mark.Past ∷ ms) rest = Stretch program number ∷ []

-- The items of a program that is called while n calls may still be opened, its own one of them, and
-- then `rest` if it returns; `rest` alone if none may be opened.
unfoldable pub items_of_call : List ControlProgram → ℕ → ℕ → List Item → List Item
items_of_call tape zero program rest = rest
items_of_call tape (suc n) program rest = items (λ q k. items_of_call tape n q k) program 0 (marks (loud tape) (blocks tape program)) rest

-- The items of a frame, if its program returns each time: of its program from this stretch on, then
-- of the `left` repeats still to come, then `rest`. Its program may open n further calls.
abbrev pub items_from : List ControlProgram → ℕ → ℕ → ℕ → ℕ → List Item → List Item
items_from tape n program number left rest =
    items (λ q k. items_of_call tape n q k) program number (drop number (marks (loud tape) (blocks tape program)))
    (times left (λ k. items_of_call tape (suc n) program k) rest)

-- The number of the stretch in which a block of the program lies.
abbrev pub stretch_at : List ControlProgram → ℕ → ℕ → ℕ
stretch_at tape program block = stretch (loud tape) (blocks tape program) block

-- The items that come once the running program has returned to these frames, its caller first;
-- behind the main program the list begins anew.
abbrev pub items_after : List ControlProgram → List Frame → List Item
items_after tape [] = Anew ∷ []
items_after tape (f ∷ stack) =
    items_from tape (room stack) f.program (stretch_at tape f.program (suc f.block)) f.left (items_after tape stack)

-- The items from a place on, which is a list of frames, the running one first. A quiet program that
-- was called has none of its own; the main program has, even if it is quiet.
abbrev pub items_ahead : List ControlProgram → List Frame → List Item
items_ahead tape [] = []
items_ahead tape (f ∷ stack) =
    if counts tape f.program stack
    then items_from tape (room stack) f.program (stretch_at tape f.program f.block) f.left (items_after tape stack)
    else items_ahead tape stack

-- The list of a path: the items from its start on.
abbrev pub path_items : List ControlProgram → List Item
path_items tape = items_ahead tape (start tape)

-- How many waits the items have, before they begin anew.
abbrev pub waits_in : List Item → ℕ
waits_in [] = 0
waits_in (Stretch program number ∷ xs) = waits_in xs
waits_in (Meets ∷ xs) = suc (waits_in xs)
waits_in (Anew ∷ xs) = 0

-- How many waits the list of a path has.
abbrev pub path_waits : List ControlProgram → ℕ
path_waits tape = waits_in (path_items tape)

-- After n waits of the list, which begins anew if it ends so, these items follow.
pub data Follows (all : List Item) : ℕ → List Item → Type 0 where
  -- Before the first wait all items follow.
  first : Follows all 0 all
  -- Past a stretch the items after it follow.
  behind_stretch : (n program number : ℕ) (rest : List Item) → Follows all n (Stretch program number ∷ rest) → Follows all n rest
  -- Past a wait the items after it follow, and one wait more is passed.
  behind_wait : (n : ℕ) (rest : List Item) → Follows all n (Meets ∷ rest) → Follows all (suc n) rest
  -- At the end of a round that begins anew, all items follow.
  anew : (n : ℕ) (rest : List Item) → Follows all n (Anew ∷ rest) → Follows all n all

-- The block is in part n of the path: its stretch stands after n waits of the list, or it is a
-- block of a quiet program that a block of part n calls.
pub data IsInPart (tape : List ControlProgram) (n : ℕ) : ℕ → ℕ → Type 0 where
  -- Its stretch stands after n waits of the list.
  listed : (program block : ℕ) (rest : List Item)
      → Follows (path_items tape) n (Stretch program (stretch_at tape program block) ∷ rest) → IsInPart tape n program block
  -- A block of part n calls its program, which is quiet.
  called : (caller there program block repeats : ℕ) → IsInPart tape n caller there
      → control_at (blocks tape caller) there ≡ Some (Call program repeats) → loud tape program ≡ false → IsInPart tape n program block

-- Some steps of the path, with n waits that it passed, lead from its start to the place.
pub data IsReached (tape : List ControlProgram) : ℕ → List Frame → Type 0 where
  -- At the start no wait is passed.
  starts : IsReached tape 0 (start tape)
  -- A step passes no wait.
  steps : (n : ℕ) (from to : List Frame) → IsReached tape n from → Step tape from to → IsReached tape n to
  -- At a wait the path goes on, and one wait more is passed.
  passes : (n code : ℕ) (from : List Frame) → IsReached tape n from → control_of_place tape from ≡ Some (Wait code)
      → IsReached tape (suc n) (place_behind from)

-- After n waits each block that a path may come to is in part n.
abbrev pub StandsInParts : List ControlProgram → Type 0
StandsInParts tape =
    (n : ℕ) (f : Frame) (stack : List Frame) → IsReached tape n (f ∷ stack) → IsInPart tape n f.program f.block

-- Parts repeat: with w waits in the list, the blocks of part n + w are among those of part n, if n
-- is not 0. If the list has no wait, there is part 0 alone.
pub record PartsRepeat (tape : List ControlProgram) : Type 0 where
  -- A block of a part after more waits than the list has is in the part of a round before too.
  pub before : (n program block : ℕ) → 0 < n → IsInPart tape (n + path_waits tape) program block → IsInPart tape n program block
  -- Without a wait there is part 0 alone.
  pub alone : (n program block : ℕ) → path_waits tape ≡ 0 → IsInPart tape n program block → n ≡ 0
