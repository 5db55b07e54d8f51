-- The programs of a tape, as far as control goes through them: where jumps lead, and which loops
-- hold a block. Everywhere a tape is the list of its programs, a program is known by its O number,
-- and a block of it by its place from 0.
use Rattle.std.specs.Prelude.{◌≡◌, ℕ, zero, suc, Bool, true, false, not, ◌==◌, ◌&&◌, ◌||◌, nat_lt, nat_le, List, [], ◌∷◌, drop, find, Option, Some, None, Result, Ok, Err, slice_get, if◌then◌else◌}
use Rattle.nc_number.specs.declared.cause.Cause.{Cause}
use Rattle.nc_number.specs.declared.cause.Cause.TheVariants.{NoSequence, IntoLoop}
use Rattle.nc_number.specs.Options.{is_some_of}
use Rattle.block_order.specs.declared.control.Control.{Control}
use Rattle.block_order.specs.declared.control.Control.TheVariants.{While, Do, EndLoop}
use Rattle.block_order.specs.declared.program.ControlBlock.{ControlBlock}
use Rattle.block_order.specs.declared.program.ControlProgram.{ControlProgram}

-- The first program of that number, if the tape has one.
abbrev pub program_of : List ControlProgram → ℕ → Option ControlProgram
program_of tape number = find (λ program. program.number == number) tape

-- The blocks of this program; no block if there is no program.
abbrev pub blocks_of : Option ControlProgram → List ControlBlock
blocks_of None = []
blocks_of (Some program) = program.blocks

-- The blocks of the first program with this number; no block if the tape lacks one.
abbrev pub blocks : List ControlProgram → ℕ → List ControlBlock
blocks tape number = blocks_of (program_of tape number)

-- The number of the main program, which is the first one; 0 if the tape has no program.
abbrev pub main_number : List ControlProgram → ℕ
main_number [] = 0
main_number (program ∷ rest) = program.number

-- The control of a block, if there is one.
abbrev pub control_of : Option ControlBlock → Option Control
control_of None = None
control_of (Some block) = Some block.control

-- The control of the block at a place.
abbrev pub control_at : List ControlBlock → ℕ → Option Control
control_at bs place = control_of (slice_get bs place)

-- Whether the sequence number of a block, which it may lack, is n.
abbrev pub has_sequence : ℕ → Option ℕ → Bool
has_sequence n None = false
has_sequence n (Some own) = n == own

-- The first block of this sequence number, among blocks that stand from a place on.
abbrev pub first_numbered : List ControlBlock → ℕ → ℕ → Option ℕ
first_numbered [] place n = None
first_numbered (b ∷ bs) place n = if has_sequence n b.sequence then Some place else first_numbered bs (suc place) n

-- The first place, or else the other one.
abbrev pub or_else : Option ℕ → Option ℕ → Option ℕ
or_else (Some place) other = Some place
or_else None other = other

-- Sequence search: the first block numbered n behind the block, else the first from the program's
-- start.
abbrev pub seek : List ControlBlock → ℕ → ℕ → Option ℕ
seek bs block n = or_else (first_numbered (drop (suc block) bs) (suc block) n) (first_numbered bs 0 n)

-- The name of the loop that begins at a block of this control.
abbrev pub head_name : Option Control → Option ℕ
head_name (Some (While name)) = Some name
head_name (Some (Do name)) = Some name
head_name other = None

-- The block is an END of this name.
abbrev pub is_end_of : ℕ → Control → Bool
is_end_of name (EndLoop own) = own == name
is_end_of name other = false

-- The first END of this name, among blocks that stand from a place on.
abbrev pub first_end : ℕ → List ControlBlock → ℕ → Option ℕ
first_end name [] place = None
first_end name (b ∷ bs) place = if is_end_of name b.control then Some place else first_end name bs (suc place)

-- The END, behind the head, of a loop of this name.
abbrev pub end_named : List ControlBlock → ℕ → Option ℕ → Option ℕ
end_named bs head None = None
end_named bs head (Some name) = first_end name (drop (suc head) bs) (suc head)

-- The END of the loop that begins at the block, if one begins there: the nearest of its name. The
-- loop holds the blocks behind its head up to and with its END.
abbrev pub end_of_loop : List ControlBlock → ℕ → Option ℕ
end_of_loop bs head = end_named bs head (head_name (control_at bs head))

-- The latest head, among the first n places, whose loop ends at the block.
abbrev pub head_below : ℕ → List ControlBlock → ℕ → Option ℕ
head_below zero bs close = None
head_below (suc head) bs close = if is_some_of close (end_of_loop bs head) then Some head else head_below head bs close

-- The head of the loop that ends at the block.
abbrev pub head_of_loop : List ControlBlock → ℕ → Option ℕ
head_of_loop bs close = head_below close bs close

-- The block stands at the END or before it; if there is no END, no block does.
abbrev pub is_up_to : ℕ → Option ℕ → Bool
is_up_to block None = false
is_up_to block (Some close) = nat_le block close

-- The loop that begins at head holds the block.
abbrev pub holds : List ControlBlock → ℕ → ℕ → Bool
holds bs head block = nat_lt head block && is_up_to block (end_of_loop bs head)

-- Each loop that begins at one of the first n places and holds the target holds the block too.
abbrev pub permits_below : ℕ → List ControlBlock → ℕ → ℕ → Bool
permits_below zero bs block target = true
permits_below (suc head) bs block target =
    (not (holds bs head target) || holds bs head block) && permits_below head bs block target

-- A jump may lead out of a loop and not into one: every loop that holds the target holds the block
-- too.
abbrev pub permits : List ControlBlock → ℕ → ℕ → Bool
permits bs block target = permits_below target bs block target

-- The target that a search found, if a jump to it is permitted; else alarm 50 or 53.
abbrev pub permitted_target : List ControlBlock → ℕ → Option ℕ → Result ℕ Cause
permitted_target bs block None = Err NoSequence
permitted_target bs block (Some target) = if permits bs block target then Ok target else Err IntoLoop

-- Where a jump from the block to the sequence number n leads; alarm 50 if no block of these has the
-- number, 53 if a loop holds the target and not the block.
abbrev pub target_of : List ControlBlock → ℕ → ℕ → Result ℕ Cause
target_of bs block n = permitted_target bs block (seek bs block n)

-- The loop that begins at head ends at close.
abbrev pub IsLoop : List ControlBlock → ℕ → ℕ → Type 0
IsLoop bs head close = end_of_loop bs head ≡ Some close

-- A jump from the block to the target leads into no loop that does not hold the block.
abbrev pub IsPermitted : List ControlBlock → ℕ → ℕ → Type 0
IsPermitted bs block target = permits bs block target ≡ true

-- A jump from the block to the number n leads to the target.
abbrev pub Leads : List ControlBlock → ℕ → ℕ → ℕ → Type 0
Leads bs block n target = target_of bs block n ≡ Ok target

-- The number may be n: a sequence number that is written out is only itself, a computed one may be
-- any.
abbrev pub MayBe : Option ℕ → ℕ → Type 0
MayBe None n = Unit {0}
MayBe (Some own) n = own ≡ n
