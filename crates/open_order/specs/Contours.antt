-- The contours of the cycles G70 to G73: which blocks P and Q name, what is wrong with a contour (a
-- block is missing, it ends before it begins, or it has a wait or an end in it), and the first
-- fault of a tape. 50 and 65 are numbers of refusals (docs/ERRORS.md). `open_order`
-- (src/ordering.rt) refuses tapes by it.
use Rattle.std.specs.Prelude.{ℕ, suc, ◌-◌, Bool, true, false, not, ◌==◌, ◌&&◌, ◌||◌, nat_le, List, [], ◌∷◌, take, drop, Option, Some, None, ℤ, codes, if◌then◌else◌}
use Rattle.std.specs.List.{list_any}
use Rattle.nc_number.specs.declared.cause.Cause.{Cause}
use Rattle.nc_number.specs.declared.cause.Cause.TheVariants.{NoSequence, BranchAtWait}
use Rattle.nc_number.specs.Causes.{cause_number}
use Rattle.line_text.specs.declared.body.Word.{Word}
use Rattle.nc_text.specs.declared.tape.Block.{Block}
use Rattle.line_text.specs.declared.body.Body.{Body}
use Rattle.line_text.specs.declared.body.Body.TheVariants.{Words, Statement}
use Rattle.nc_text.specs.declared.tape.Program.{Program}
use Rattle.block_order.specs.declared.control.Control.{Control}
use Rattle.block_order.specs.declared.control.Control.TheVariants.{Wait, End, Call, Back, BackTo}
use Rattle.block_order.specs.declared.program.ControlBlock.{ControlBlock}
use Rattle.block_order.specs.declared.program.ControlProgram.{ControlProgram}
use Rattle.block_order.specs.Loud.{loud}
use Rattle.block_order.specs.Order.{blocks, has_sequence, first_numbered}
use Rattle.tape_flow.specs.declared.fault.FlowFault.{FlowFault}
use Rattle.block_words.specs.Words.{is_one_of}
use Rattle.open_forms.specs.Codes.{is_g}
use Rattle.open_forms.specs.Words.{written_micro, last_number}
use Rattle.open_order.specs.declared.contour.Contour.{Contour}

-- whether a code, in millionths, is G70, G71, G72 or G73
abbrev pub is_cycle_code : Option ℤ → Bool
is_cycle_code None = false
is_cycle_code (Some z) = (is_g 70000000 z || is_g 71000000 z) || (is_g 72000000 z || is_g 73000000 z)

-- whether a code, in millionths, is G65, a macro call, whose P names a program and no contour
abbrev pub is_macro_code : Option ℤ → Bool
is_macro_code None = false
is_macro_code (Some z) = is_g 65000000 z

-- one of the G words is a code of which `is_it` holds
abbrev pub has_code : (Option ℤ → Bool) → List Word → Bool
has_code is_it words = list_any (λ word. is_one_of (codes "G") word.letter && is_it (written_micro word)) words

-- the contour from the block numbered P to the one numbered Q, if both numbers are there
abbrev pub contour_by : Option ℕ → Option ℕ → Option Contour
contour_by (Some from) (Some to) = Some (record { from = from; to = to })
contour_by _ _ = None

-- the contour of the cycle that a block begins, if it begins one: from the block numbered P to the
-- one numbered Q
abbrev pub contour_in : Body → Option Contour
contour_in (Words words) =
    if not (has_code is_macro_code words) && has_code is_cycle_code words
    then contour_by (last_number (codes "P") words) (last_number (codes "Q") words)
    else None
contour_in (Statement text) = None

-- whether a block of this control may not stand in a contour: a wait, an end, an M99, or a call of
-- a program that is loud, which means that it reaches a wait or an end
abbrev pub disturbs : (ℕ → Bool) → Control → Bool
disturbs loud (Wait code) = true
disturbs loud End = true
disturbs loud Back = true
disturbs loud (BackTo n) = true
disturbs loud (Call program repeats) = loud program
disturbs loud other = false

-- the blocks from first to last, both among them
abbrev pub blocks_between : List ControlBlock → ℕ → ℕ → List ControlBlock
blocks_between bs first last = take (suc (last - first)) (drop first bs)

-- The contour runs from a block to the same or a later one, and no block of it is one that may not
-- stand in a contour.
abbrev pub is_calm : (ℕ → Bool) → List ControlBlock → ℕ → ℕ → Bool
is_calm loud bs first last =
    nat_le first last && not (list_any (λ b. disturbs loud b.control) (blocks_between bs first last))

-- the place of the last of these blocks with this sequence number, or else the one that was found
-- before; the first of them stands at a place
abbrev pub last_numbered : Option ℕ → List ControlBlock → ℕ → ℕ → Option ℕ
last_numbered found [] place n = found
last_numbered found (b ∷ bs) place n =
    last_numbered (if has_sequence n b.sequence then Some place else found) bs (suc place) n

-- the fault of a contour from this first to this last block, of which the last may be missing (50)
abbrev pub fault_between : (ℕ → Bool) → List ControlBlock → ℕ → Option ℕ → Option Cause
fault_between loud bs first None = Some NoSequence
fault_between loud bs first (Some last) = if is_calm loud bs first last then None else Some BranchAtWait

-- the fault of a contour from this first block, which may be missing (50)
abbrev pub fault_from : (ℕ → Bool) → List ControlBlock → Contour → Option ℕ → Option Cause
fault_from loud bs contour None = Some NoSequence
fault_from loud bs contour (Some first) = fault_between loud bs first (last_numbered None bs 0 contour.to)

-- What is wrong with a contour: 50 if the program lacks one of its numbers; else 65 if it ends before
-- it begins, or a block of it may not stand in a contour. Nothing if the block names no contour. A
-- contour whose number stands twice is the widest that may be meant: from the first block of P to the
-- last one of Q.
abbrev pub contour_cause : (ℕ → Bool) → List ControlBlock → Option Contour → Option Cause
contour_cause loud bs None = None
contour_cause loud bs (Some contour) = fault_from loud bs contour (first_numbered bs 0 contour.from)

-- the fault of a contour, if it has one, told at the line of its cycle
abbrev pub fault_at : ℕ → Option Cause → Option FlowFault
fault_at line None = None
fault_at line (Some cause) = Some (record { number = cause_number cause; line = line })

-- the fault of the contour that a block of a program names, told at the block's line
abbrev pub block_fault : (ℕ → Bool) → List ControlBlock → Block → Option FlowFault
block_fault loud bs block = fault_at block.line (contour_cause loud bs (contour_in block.body))

-- the first fault if there is one, else the later
abbrev pub or_later : Option FlowFault → Option FlowFault → Option FlowFault
or_later (Some fault) later = Some fault
or_later None later = later

-- the first fault of a contour of these blocks, in a program with these blocks
abbrev pub blocks_fault : (ℕ → Bool) → List ControlBlock → List Block → Option FlowFault
blocks_fault loud bs [] = None
blocks_fault loud bs (block ∷ rest) = or_later (block_fault loud bs block) (blocks_fault loud bs rest)

-- the first fault of a contour of these programs, on a tape with this order
abbrev pub contour_fault : List ControlProgram → List Program → Option FlowFault
contour_fault order [] = None
contour_fault order (program ∷ rest) =
    or_later (blocks_fault (loud order) (blocks order program.number) program.blocks) (contour_fault order rest)
