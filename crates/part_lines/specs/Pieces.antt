-- The least lines of single programs, as they are made and joined. A quiet program comes to no wait
-- and no end, also not by its calls. `line` and `quiet` are those of Lines: the line of a block
-- that is looked for, and the least line of a quiet program. For this crate alone: src/piece.rt,
-- src/listing.rt and src/quiet.rt keep these.
use Rattle.std.specs.Prelude.{◌≡◌, ℕ, suc, ◌≤◌, List, [], ◌∷◌, ◌++◌, Option, Some, None, nat_eq}
use Rattle.indexmap.specs.IndexMap.{get}
use Rattle.block_order.specs.declared.control.Control.{Control}
use Rattle.block_order.specs.declared.program.ControlBlock.{ControlBlock}
use Rattle.block_order.specs.declared.program.ControlProgram.{ControlProgram}
use Rattle.block_order.specs.Order.{blocks, control_at}
use Rattle.block_order.specs.Loud.{loud}
use Rattle.loud_calls.specs.declared.known.KnownPrograms.{KnownPrograms}
use Rattle.loud_calls.specs.Calls.{IsShort, IsShortCall}
use Rattle.loud_calls.specs.Known.{piece_known}
use Rattle.part_lines.specs.declared.piece.Ending.{Ending}
use Rattle.part_lines.specs.declared.piece.Ending.TheVariants.{Stops, Returns}
use Rattle.part_lines.specs.declared.piece.Piece.{Piece}
use Rattle.part_lines.specs.declared.piece.PieceLines.{PieceLines}
use Rattle.part_lines.specs.declared.quiet.QuietLines.{QuietLines}
use Rattle.nc_number.specs.Options.{lesser}
use Rattle.part_lines.specs.Least.{IsLeast}
use Rattle.part_lines.specs.Lines.{Lines, with_first, times, seen_line, block_lines, blocks_lines, lines_of_run, LineFrom}

-- The lines of a piece with what comes behind them, as the list of lines that the piece shows.
abbrev pub shown_lines : PieceLines → Lines → Lines
shown_lines lines behind = lines.done.items ++ with_first lines.last behind

-- The lines of a piece with what comes behind them by how the program ends there: `behind` if it
-- goes on, nothing if it stops, `back` if it returns.
abbrev pub lines_to_come : PieceLines → Option Ending → Lines → Lines → Lines
lines_to_come lines None back behind = shown_lines lines behind
lines_to_come lines (Some Stops) back behind = shown_lines lines (None ∷ [])
lines_to_come lines (Some Returns) back behind = shown_lines lines back

-- How the calling program ends at the call of a program that ends so, if it ends there.
abbrev pub stop_of : Ending → Option Ending
stop_of Stops = Some Stops
stop_of Returns = None

-- The new lines are the old ones with one line more in their last part.
abbrev pub IsSeen : PieceLines → PieceLines → Option ℕ → Type 0
IsSeen old new line = (behind : Lines) → shown_lines new behind ≡ shown_lines old (with_first line behind)

-- The new lines are the old ones with those of a piece behind them n times.
abbrev pub AreJoined : PieceLines → PieceLines → ℕ → PieceLines → Type 0
AreJoined old new n more =
    (behind : Lines) → shown_lines new behind ≡ shown_lines old (times n (shown_lines more) behind)

-- The new lines are the old ones with those of a piece that is run n times and ends so. If it
-- stops, its first run is its last.
abbrev pub AreAdded : Ending → PieceLines → PieceLines → ℕ → PieceLines → Type 0
AreAdded Stops old new n more = (behind : Lines) → shown_lines new behind ≡ shown_lines old (shown_lines more behind)
AreAdded Returns old new n more = AreJoined old new n more

-- These are the lines of the program, and it ends so: for each number n of calls that may follow,
-- if no chain of n calls of loud programs begins in it.
abbrev pub IsPiece : List ControlProgram → (ℕ → ℕ → Option ℕ) → (ℕ → Option ℕ) → ℕ → PieceLines → Ending → Type 0
IsPiece tape line quiet program lines ending =
    (n : ℕ) (back : Lines) → IsShort tape n program → lines_of_run tape line quiet n program back ≡ lines_to_come lines (Some ending) back []

-- What is kept of each program is its lines and how it ends.
abbrev pub AreKnown : List ControlProgram → (ℕ → ℕ → Option ℕ) → (ℕ → Option ℕ) → KnownPrograms Piece → Type 0
AreKnown tape line quiet known =
    (program : ℕ) (piece : Piece) → piece_known known program ≡ Some piece → IsPiece tape line quiet program piece.lines piece.ending

-- The lines that come behind a block of this control, with fewer than n calls to follow, one in
-- another.
abbrev pub from_block : List ControlProgram → (ℕ → ℕ → Option ℕ) → (ℕ → Option ℕ) → ℕ → Lines → Control → Lines → Lines
from_block tape line quiet n back control behind =
    block_lines (loud tape) (λ q rest. lines_of_run tape line quiet n q rest) back control behind

-- The new lines are the old ones with what comes behind a block of this control; the program ends
-- there as told, or goes on.
abbrev pub IsTaken : List ControlProgram → (ℕ → ℕ → Option ℕ) → (ℕ → Option ℕ) → Control → PieceLines → PieceLines → Option Ending → Type 0
IsTaken tape line quiet control old new ending =
    (n : ℕ) (back behind : Lines) → IsShortCall tape n control
    → shown_lines old (from_block tape line quiet n back control behind) ≡ lines_to_come new ending back behind

-- The lines of a program up to a place and those of the blocks that are left are the lines of the
-- program.
pub record IsSoFar (tape : List ControlProgram) (line : ℕ → ℕ → Option ℕ) (quiet : ℕ → Option ℕ) (program : ℕ) (lines : PieceLines) (place : ℕ) (rest : List ControlBlock) : Type 0 where
  -- Each block that is left is one of the program's.
  pub calls : (i : ℕ) (c : Control) → control_at rest i ≡ Some c → (own : ℕ) × (control_at (blocks tape program) own ≡ Some c)
  -- Both together are its lines, for each number of calls that is enough for what follows in it.
  pub are : (n : ℕ) (back : Lines) → IsShort tape (suc n) program
      → lines_of_run tape line quiet (suc n) program back
      ≡ shown_lines lines (blocks_lines (loud tape) quiet (λ q behind. lines_of_run tape line quiet n q behind) (line program) back place rest)

-- The least line that was found so far of a program and what is opened from it: of the quiet
-- programs that it calls, directly or through others.
abbrev pub quiet_known : QuietLines → ℕ → Option ℕ
quiet_known found program = get nat_eq found.lines program

-- What was found is no greater than the line. Without a line this is so; if nothing was found, only
-- without a line.
abbrev pub IsBelow : Option ℕ → Option ℕ → Type 0
IsBelow found None = Unit {0}
IsBelow None (Some k) = ⊥
IsBelow (Some line) (Some k) = line ≤ k

-- Each line that was found is one of its program or of what is opened from it.
abbrev pub AreFound : List ControlProgram → (ℕ → ℕ → Option ℕ) → (ℕ → Option ℕ) → Type 0
AreFound tape line found = (program k : ℕ) → found program ≡ Some k → LineFrom tape line program k

-- No block of the program has a line, or calls a quiet program with one, that is less than what was
-- found of the program.
abbrev pub IsClosedAt : List ControlProgram → (ℕ → ℕ → Option ℕ) → (ℕ → Option ℕ) → ℕ → Type 0
IsClosedAt tape line found program =
    (block : ℕ) (c : Control) → control_at (blocks tape program) block ≡ Some c
    → IsBelow (found program) (seen_line (loud tape) found (line program block) c)

-- No block of any program has or calls a line that is less than what was found of its program.
abbrev pub IsClosed : List ControlProgram → (ℕ → ℕ → Option ℕ) → (ℕ → Option ℕ) → Type 0
IsClosed tape line found = (program : ℕ) → IsClosedAt tape line found program

-- What was found of each program is the least line of it and of what is opened from it.
abbrev pub AreQuietLines : List ControlProgram → (ℕ → ℕ → Option ℕ) → (ℕ → Option ℕ) → Type 0
AreQuietLines tape line found = (program : ℕ) → IsLeast (LineFrom tape line program) (found program)

-- The line of the first part, if there is one.
abbrev pub first_of : Lines → Option ℕ
first_of [] = None
first_of (line ∷ lines) = line

-- The lines of a whole path, made of those of its main program. If that returns, its round is
-- closed: the last part has the blocks of the first one too.
abbrev pub lines_of_path : PieceLines → Ending → Lines
lines_of_path lines Stops = lines.done.items ++ lines.last ∷ []
lines_of_path lines Returns = lines.done.items ++ lesser lines.last (first_of lines.done.items) ∷ []
