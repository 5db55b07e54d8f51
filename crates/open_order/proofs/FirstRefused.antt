-- If the reading of a tape ends at a block, that block is the first one that is refused, and every
-- other one that is refused stands after it.
-- For the law `the_first_refused_block_has_the_least_line` (src/laws.rt).
use Rattle.std.proofs.Common.{◌≡◌, ℕ, ◌≤◌, Bool, List, [], ◌∷◌, ◌++◌, map, refl, ap, sym, ◌∙◌, arith, Option, Some, None, Result, Ok, Err, All, Contains}
use Rattle.std.proofs.lemmas.List.Elements.{All-nil, All-cons, All-weaker, All-contains, Contains-append_left, Contains-append_right, Contains-push}
use Rattle.nc_number.specs.Results.{◌>>=◌}
use Rattle.nc_text.specs.declared.tape.Block.{Block}
use Rattle.nc_text.specs.declared.tape.Program.{Program}
use Rattle.nc_number.specs.Rising.{RiseFrom}
use Rattle.nc_text.specs.Shape.{blocks_in, IsTapeShape}
use Rattle.block_order.specs.declared.control.Control.{Control}
use Rattle.block_order.specs.declared.program.ControlBlock.{ControlBlock}
use Rattle.block_order.specs.declared.program.ControlProgram.{ControlProgram}
use Rattle.block_forms.specs.declared.fault.FormFault.{FormFault}
use Rattle.open_forms.specs.Controls.{open_control, control_or_number}
use Rattle.tape_flow.specs.declared.fault.FlowFault.{FlowFault}
use Rattle.tape_flow.proofs.FirstRefused.{refusal_or, Tells, block_tells, program_tells, block_lines_rise, all_behind, comes_to}
use Rattle.open_order.specs.declared.premises.Premises.{Premises}
use Rattle.open_order.specs.Reading.{Basis, gone_from, at_line, block_read, blocks_from, programs_from, programs_read}
use Rattle.open_order.specs.Exact.{refusal}
use Rattle.open_order.specs.Least.{basis_of, IsLeastRefused}

-- the refusal of the first block that has one
abbrev pub first_refusal : Basis → List Block → Option FlowFault
first_refusal basis [] = None
first_refusal basis (block ∷ blocks) = refusal_or (block_read basis block) (first_refusal basis blocks)

-- reading a list of blocks comes to its first refusal, or hands over to what follows it
blocks_tell : (basis : Basis) (blocks more : List Block) (done : List ControlBlock)
    → Tells (blocks_from basis done blocks) (first_refusal basis (blocks ++ more)) (first_refusal basis more)
blocks_tell basis [] more done = refl
blocks_tell basis (block ∷ blocks) more done =
    block_tells (block_read basis block) (λ own. blocks_from basis (done ++ own ∷ []) blocks)
    (first_refusal basis (blocks ++ more)) (first_refusal basis more)
    (λ own. blocks_tell basis blocks more (done ++ own ∷ []))

-- reading a tape comes to the refusal of its first block that has one, or no block has one
programs_tell : (basis : Basis) (tape : List Program) (done : List ControlProgram)
    → Tells (programs_from basis done tape) (first_refusal basis (blocks_in tape)) None
programs_tell basis [] done = refl
programs_tell basis (program ∷ programs) done =
    program_tells (blocks_from basis [] program.blocks)
    (λ blocks. record { number = program.number; line = program.line; blocks = blocks })
    (λ own. programs_from basis (done ++ own ∷ []) programs)
    (first_refusal basis (program.blocks ++ blocks_in programs)) (first_refusal basis (blocks_in programs)) None
    (blocks_tell basis program.blocks (blocks_in programs) [])
    (λ own. programs_tell basis programs (done ++ own ∷ []))

-- an answer of open_forms that refuses a block is told at the block's line
line_at : (gone : ℕ → Bool) (block : Block) (read : Result Control FormFault) (fault : FlowFault)
    → at_line gone block read ≡ Err fault → block.line ≡ fault.line
line_at gone block (Ok control) fault is = absurd cc
line_at gone block (Err own) fault is =
    let same : record { number = own.number; line = block.line } ≡ fault = cc in ap (λ (f : FlowFault). f.line) same

-- a refusal has the line of its block
line_of_refusal : (basis : Basis) (block : Block) (fault : FlowFault) → block_read basis block ≡ Err fault
    → block.line ≡ fault.line
line_of_refusal basis block fault is =
    line_at (gone_from basis) block (control_or_number (open_control basis.premises.dialect block.body)) fault is

-- if this block is refused, its line is not before that of the fault
abbrev pub IsNoEarlier : Basis → FlowFault → Block → Type 0
IsNoEarlier basis fault block = (other : FlowFault) → block_read basis block ≡ Err other → fault.line ≤ block.line

-- no refusal among a block and those behind it is earlier than the first one, if that holds of
-- those behind it
least_at : (basis : Basis) (block : Block) (blocks : List Block) (fault : FlowFault) (read : Result ControlBlock FlowFault)
    → block_read basis block ≡ read → refusal_or read (first_refusal basis blocks) ≡ Some fault
    → All (λ other. block.line ≤ other.line) blocks
    → (first_refusal basis blocks ≡ Some fault → All (IsNoEarlier basis fault) blocks)
    → All (IsNoEarlier basis fault) (block ∷ blocks)
least_at basis block blocks fault (Ok own) is first later rest =
    All-cons (IsNoEarlier basis fault) block blocks (λ other refused. absurd (let e : ◌≡◌ {A = Result ControlBlock FlowFault} (Ok own) (Err other) = sym is ∙ refused in cc))
    (rest first)
least_at basis block blocks fault (Err own) is first later rest =
    let same : own ≡ fault = cc in
    let here : block.line ≡ fault.line = line_of_refusal basis block own is ∙ ap (λ (f : FlowFault). f.line) same in
    All-cons (IsNoEarlier basis fault) block blocks (λ other refused. omega (arith, here))
    (All-weaker (λ other. block.line ≤ other.line) (IsNoEarlier basis fault)
    (λ other behind fault' refused. omega (arith, here, behind)) blocks later)

-- the first refused block of rising lines has the least line of all that are refused
least : (basis : Basis) (blocks : List Block) (low : ℕ) (fault : FlowFault) → first_refusal basis blocks ≡ Some fault
    → RiseFrom low (map (λ block. block.line) blocks) → All (IsNoEarlier basis fault) blocks
least basis [] low fault first rise = All-nil (IsNoEarlier basis fault)
least basis (block ∷ blocks) low fault first rise =
    least_at basis block blocks fault (block_read basis block) refl first (all_behind blocks block.line rise.1)
    (λ rest. least basis blocks block.line fault rest rise.1)

-- a block of the list has this refusal
abbrev pub IsThere : Basis → List Block → FlowFault → Type 0
IsThere basis blocks fault = (block : Block) × Contains blocks block × (block_read basis block ≡ Err fault)

-- the first refusal is that of this block, or of one behind it
there_at : (basis : Basis) (block : Block) (blocks : List Block) (fault : FlowFault) (read : Result ControlBlock FlowFault)
    → block_read basis block ≡ read → refusal_or read (first_refusal basis blocks) ≡ Some fault
    → (first_refusal basis blocks ≡ Some fault → IsThere basis blocks fault) → IsThere basis (block ∷ blocks) fault
there_at basis block blocks fault (Ok own) is first rest =
    let there = rest first in (there.0, Contains-append_right (block ∷ []) blocks there.0 there.1, there.2)
there_at basis block blocks fault (Err own) is first rest =
    let same : own ≡ fault = cc in
    (block, Contains-append_left (block ∷ []) blocks block (Contains-push [] block), is ∙ ap (λ f. Err f) same)

-- the first refusal is that of a block of the list
there : (basis : Basis) (blocks : List Block) (fault : FlowFault) → first_refusal basis blocks ≡ Some fault
    → IsThere basis blocks fault
there basis [] fault first = absurd cc
there basis (block ∷ blocks) fault first =
    there_at basis block blocks fault (block_read basis block) refl first (λ rest. there basis blocks fault rest)

-- if the reading of a tape ends at a refusal, that is the refusal of its refused block on the least
-- line
pub least_refused : (premises : Premises) (tape : List Program) (line number : ℕ) → IsTapeShape tape
    → programs_read premises tape ≡ Err (refusal line number) → IsLeastRefused premises tape line number
least_refused premises tape line number shape failed =
    let basis = basis_of premises tape in
    let first = comes_to (programs_read premises tape) (refusal line number) (first_refusal basis (blocks_in tape))
    (programs_tell basis tape []) failed in
    let all = least basis (blocks_in tape) 0 (refusal line number) first (block_lines_rise tape 0 shape.lines) in
    let own = there basis (blocks_in tape) (refusal line number) first in
    record {
      block = own.0;
      there = own.1;
      at = line_of_refusal basis own.0 (refusal line number) own.2;
      refused = own.2;
      least = λ other fault is refused. All-contains (IsNoEarlier basis (refusal line number)) (blocks_in tape) other all is fault refused;
    }
