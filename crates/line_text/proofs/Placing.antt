-- What is left of a line of a tape after its comments and its skip sign keeps its places below
-- 2 ^ 32. For the proof of `read_head` (src/line.rt).
use Rattle.std.proofs.Common.{◌+◌, ◌<◌, ◌^◌, Bool, true, false, cond, List, [], ◌∷◌}
use Rattle.std.proofs.lemmas.List.Elements.{All-drop, All-tail}
use Rattle.line_text.specs.declared.sign.Sign.{Sign}
use Rattle.line_text.specs.Places.{ArePlaced}
use Rattle.line_text.specs.Front.{behind_comments, behind_digit, behind_switch}

-- the place after this sign is below 2 ^ 32
abbrev IsPlaced : Sign → Type 0
IsPlaced sign = sign.place + 1 < 2 ^ 32

-- whichever of two lists with such places is taken has such places
placed_cond : (test : Bool) (a b : List Sign) → ArePlaced a → ArePlaced b → ArePlaced (cond test a b)
placed_cond true a b p q = p
placed_cond false a b p q = q

-- the signs after the digit of a skip sign have such places
placed_digit : (signs : List Sign) → ArePlaced signs → ArePlaced (behind_digit signs)
placed_digit [] placed = placed
placed_digit (sign ∷ signs) placed = placed_cond _ signs (sign ∷ signs) (All-tail IsPlaced sign signs placed) placed

-- the signs after a skip sign have such places
placed_switch : (signs : List Sign) → ArePlaced signs → ArePlaced (behind_switch signs)
placed_switch [] placed = placed
placed_switch (sign ∷ signs) placed = placed_cond _ (behind_digit signs) (sign ∷ signs) (placed_digit signs (All-tail IsPlaced sign signs placed)) placed

-- the signs after the first comments have places below 2 ^ 32
placed_comments : (signs : List Sign) → ArePlaced signs → ArePlaced (behind_comments signs)
placed_comments signs placed = All-drop IsPlaced _ signs placed

-- the signs of a line after its skip sign and the comments behind that have places below 2 ^ 32
pub placed_behind : (signs : List Sign) → ArePlaced signs → ArePlaced (behind_comments (behind_switch signs))
placed_behind signs placed = placed_comments (behind_switch signs) (placed_switch signs placed)
