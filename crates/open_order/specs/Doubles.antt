-- Jumps to a sequence number that their program has twice. Which of its blocks a machine finds may hang
-- on a parameter, so each of them counts: a jump of a program on which labels depend, to a number that
-- the program has twice, once in another stretch, is 65. A stretch is the run of blocks up to a mark: a
-- wait, an end, an M99 without a number, or a call of a loud program, which reaches a wait or an end.
-- src/doubles.rt answers `double_fault`.
use Rattle.std.specs.Prelude.{ℕ, suc, Bool, true, false, not, ◌==◌, ◌&&◌, ◌||◌, nat_eq, List, [], ◌∷◌, ◌++◌, get_or, Option, Some, None, if◌then◌else◌}
use Rattle.std.specs.List.{list_any}
use Rattle.std.specs.Option.{option_to_list}
use Rattle.std.specs.HashSet.{contains}
use Rattle.nc_number.specs.declared.cause.Cause.TheVariants.{BranchAtWait}
use Rattle.nc_number.specs.Causes.{cause_number}
use Rattle.block_order.specs.declared.control.Control.{Control}
use Rattle.block_order.specs.declared.control.Control.TheVariants.{Goto, Call, BackTo}
use Rattle.block_order.specs.declared.program.ControlBlock.{ControlBlock}
use Rattle.block_order.specs.declared.program.ControlProgram.{ControlProgram}
use Rattle.block_order.specs.Loud.{loud}
use Rattle.block_order.specs.Order.{blocks, main_number, seek}
use Rattle.wait_order.specs.Searchers.{has_back_to}
use Rattle.tape_flow.specs.declared.fault.FlowFault.{FlowFault}
use Rattle.open_order.specs.declared.counts.Counting.TheVariants.{Marks}
use Rattle.open_order.specs.declared.doubles.Double.{Double}
use Rattle.open_order.specs.declared.doubles.Meant.{Meant}
use Rattle.open_order.specs.declared.doubles.Meant.TheVariants as meant
use Rattle.open_order.specs.Contours.{or_later}
use Rattle.open_order.specs.Counts.{counts_from}

-- whether a search that begins at a place leads elsewhere
abbrev pub is_elsewhere : ℕ → Option ℕ → Bool
is_elsewhere place None = true
is_elsewhere place (Some found) = not (found == place)

-- the block at this place, with its number and its stretch, if its number stands at another block too:
-- the search for it, which goes on from the block, then leads to that one
abbrev pub double_at : List ControlBlock → List ℕ → ℕ → Option ℕ → Option Double
double_at bs counts place None = None
double_at bs counts place (Some n) =
    if is_elsewhere place (seek bs place n) then Some (record { number = n; stretch = get_or counts place 0 }) else None

-- the blocks whose numbers a program with these blocks has twice, among those that stand from a place on;
-- the counts are the stretches of its blocks
abbrev pub doubles_from : List ControlBlock → List ℕ → ℕ → List ControlBlock → List Double
doubles_from bs counts place [] = []
doubles_from bs counts place (b ∷ rest) =
    option_to_list (double_at bs counts place b.sequence) ++ doubles_from bs counts (suc place) rest

-- whether a block of this control may jump to the number: a GOTO, an M99 P of the main program, or the
-- call of a quiet program that returns by an M99 P
abbrev pub may_mean : List ControlProgram → ℕ → Control → ℕ → Bool
may_mean tape program (Goto None) n = true
may_mean tape program (Goto (Some own)) n = own == n
may_mean tape program (BackTo own) n = program == main_number tape && own == n
may_mean tape program (Call called repeats) n = not (loud tape called) && has_back_to (blocks tape called) n
may_mean tape program other n = false

-- whether the number is one of those that a jump may mean
abbrev pub is_meant : Meant → ℕ → Bool
is_meant meant.Nothing n = false
is_meant meant.Any n = true
is_meant (meant.One own) n = own == n
is_meant (meant.These numbers) n = contains nat_eq numbers n

-- whether one of these blocks has a number that is meant, and stands in another stretch than this one
abbrev pub strays : (ℕ → Bool) → ℕ → List Double → Bool
strays meant stretch doubles = list_any (λ d. not (d.stretch == stretch) && meant d.number) doubles

-- the refusal of a block in this stretch, if a jump of it strays so
unfoldable pub stray_at : List ControlProgram → ℕ → List Double → ℕ → ControlBlock → Option FlowFault
stray_at tape program doubles stretch b =
    if strays (may_mean tape program b.control) stretch doubles
    then Some (record { number = cause_number BranchAtWait; line = b.line }) else None

-- the refusal of the first of these blocks of which a jump strays so; they stand in the program from a
-- place on
abbrev pub strays_from : List ControlProgram → ℕ → List ℕ → List Double → ℕ → List ControlBlock → Option FlowFault
strays_from tape program counts doubles place [] = None
strays_from tape program counts doubles place (b ∷ rest) =
    or_later (stray_at tape program doubles (get_or counts place 0) b)
    (strays_from tape program counts doubles (suc place) rest)

-- the stretches of the blocks of a program, and of the place behind the last one
abbrev pub stretches : List ControlProgram → ℕ → List ℕ
stretches tape program = counts_from (loud tape) Marks 0 (blocks tape program)

-- the blocks of a program whose numbers it has twice
abbrev pub doubles : List ControlProgram → ℕ → List Double
doubles tape program = doubles_from (blocks tape program) (stretches tape program) 0 (blocks tape program)

-- whether labels depend on the order of the blocks of a program: of the main one, and of each loud one
abbrev pub is_counting : List ControlProgram → ℕ → Bool
is_counting tape program = program == main_number tape || loud tape program

-- the first jump of a program that may lead to another stretch, since its number stands twice
abbrev pub program_fault : List ControlProgram → ℕ → Option FlowFault
program_fault tape program =
    if is_counting tape program
    then strays_from tape program (stretches tape program) (doubles tape program) 0 (blocks tape program)
    else None

-- the first such jump of these programs
abbrev pub programs_fault : List ControlProgram → List ControlProgram → Option FlowFault
programs_fault tape [] = None
programs_fault tape (program ∷ rest) = or_later (program_fault tape program.number) (programs_fault tape rest)

-- the first such jump of a tape with this order
abbrev pub double_fault : List ControlProgram → Option FlowFault
double_fault tape = programs_fault tape tape
