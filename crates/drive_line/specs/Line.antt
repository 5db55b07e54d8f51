-- What the two ends of a drive line mean: what was sent, taken and answered (src/line_in.rt,
-- src/line_out.rt). A mark is an item at which the drive answers how many moves it took, once its
-- turret is at rest.
use Rattle.std.specs.Prelude.{◌≡◌, ◌≤◌, ℕ, ◌+◌, suc, Bool, true, false, MatchBool, List, [], ◌∷◌, ◌++◌, length, take, All, Contains, if◌then◌else◌}
use Rattle.nc_outside.specs.declared.lined_move.LinedMove.{LinedMove}
use Rattle.drive_line.specs.declared.item.Item.{Item}
use Rattle.drive_line.specs.declared.item.Item.TheVariants.{Move, Mark, Finish, End}
use Rattle.nc_outside.specs.declared.got.Got.{Got}
use Rattle.nc_outside.specs.declared.got.Got.TheVariants.{Moved, Rested}
use Rattle.nc_outside.specs.declared.rest.Rest.TheVariants as rest
use Rattle.drive_line.specs.Wire.{WireId}

-- Which line an end belongs to: the wire of its items, and the wire of the answers back.
pub record LineId : Type 0 where
  -- from the worker to the drive
  pub forth : WireId Item
  -- from the drive to the worker
  pub back : WireId ℕ

-- The end of the worker: the items that it sent, and the answers that it received.
pub record Sending : Type 0 where
  -- which line it is an end of
  pub line : LineId
  -- the items that it sent
  pub items : List Item
  -- the answers that it received: each is a number of moves
  pub received : List ℕ

-- The end of the drive: the items that it took, and whether the last of them is a mark that was not
-- answered yet. It answered each other mark among them, as `mark_counts` says.
pub record Taking : Type 0 where
  -- which line it is an end of
  pub line : LineId
  -- the items that it took
  pub items : List Item
  -- whether the last item is a mark that is not answered yet
  pub asked : Bool

-- what these items tell a turret, in order: each move, a rest before a wait at each mark, and the
-- rest at the end of the path
abbrev pub told_among : List Item → List Got
told_among [] = []
told_among (Move what ∷ items) = Moved what ∷ told_among items
told_among (Mark code ∷ items) = Rested (rest.Wait code) ∷ told_among items
told_among (Finish ∷ items) = Rested rest.End ∷ told_among items
told_among (End ∷ items) = told_among items

-- the moves among these items
abbrev pub moves_among : List Item → List LinedMove
moves_among [] = []
moves_among (Move what ∷ items) = what ∷ moves_among items
moves_among (Mark code ∷ items) = moves_among items
moves_among (Finish ∷ items) = moves_among items
moves_among (End ∷ items) = moves_among items

-- for each mark among these items, how many moves stand before it, if n moves stand before all
-- these items
abbrev pub mark_counts : ℕ → List Item → List ℕ
mark_counts n [] = []
mark_counts n (Move what ∷ items) = mark_counts (suc n) items
mark_counts n (Mark code ∷ items) = n ∷ mark_counts n items
mark_counts n (Finish ∷ items) = mark_counts n items
mark_counts n (End ∷ items) = mark_counts n items

-- whether the end of the line is among these items
abbrev pub has_end : List Item → Bool
has_end [] = false
has_end (Move what ∷ items) = has_end items
has_end (Mark code ∷ items) = has_end items
has_end (Finish ∷ items) = has_end items
has_end (End ∷ items) = true

-- whether the item is a mark
abbrev pub is_mark : Item → Bool
is_mark (Move what) = false
is_mark (Mark code) = true
is_mark Finish = false
is_mark End = false

-- nothing stands behind the end
abbrev pub EndIsLast : List Item → Type 0
EndIsLast [] = Unit {0}
EndIsLast (Move what ∷ items) = EndIsLast items
EndIsLast (Mark code ∷ items) = EndIsLast items
EndIsLast (Finish ∷ items) = EndIsLast items
EndIsLast (End ∷ items) = items ≡ []

-- What the end of the worker keeps, which counts n moves: nothing stands behind the end, and each
-- mark was answered.
pub record IsSending (n : ℕ) (items : List Item) (received : List ℕ) : Type 0 where
  -- n is the number of moves
  pub counted : n ≡ length (moves_among items)
  -- nothing follows the end
  pub last : EndIsLast items
  -- each mark has its answer
  pub answered : All (Contains received) (mark_counts 0 items)

-- the answer that is still to be given: the number of moves, if one is owed
abbrev pub owed_answer : Bool → ℕ → List ℕ
owed_answer asked n = if asked then n ∷ [] else []

-- What the end of the drive keeps, which counts n moves and knows whether it took the end and
-- whether it owes an answer: it gave the others.
pub record IsTaking (n : ℕ) (is_ended asked : Bool) (items : List Item) (given : List ℕ) : Type 0 where
  -- n is the number of moves
  pub counted : n ≡ length (moves_among items)
  -- it knows whether it took the end
  pub ended : is_ended ≡ has_end items
  -- it gave the answers of all marks, but for the one that it owes
  pub given_back : given ++ owed_answer asked n ≡ mark_counts 0 items

-- A drain for a wait of this code behind so many moves: it sent a mark, and received answers up to
-- one with that number.
pub record IsDrained (code : ℕ) (old new : Sending) (n : ℕ) : Type 0 where
  -- it is an end of the same line
  pub line : new.line ≡ old.line
  -- it sent the mark of that wait
  pub items : new.items ≡ old.items ++ Mark code ∷ []
  -- n is the number of moves that were sent before
  pub count : n ≡ length (moves_among old.items)
  -- the last answer that it received is that number
  pub received : (others : List ℕ) × (new.received ≡ old.received ++ (others ++ n ∷ []))

-- one `take` gives the next item and lists it; once the end was taken it gives the end again, and
-- the list stays
abbrev pub Takes : List Item → List Item → Item → Type 0
Takes old new item = MatchBool (has_end old) ((new ≡ old) × (item ≡ End)) (new ≡ old ++ item ∷ [])

-- the first n moves that were sent were taken
abbrev pub AreTaken : List Item → List Item → ℕ → Type 0
AreTaken sent taken n = (n ≤ length (moves_among taken)) × (take n (moves_among taken) ≡ take n (moves_among sent))
