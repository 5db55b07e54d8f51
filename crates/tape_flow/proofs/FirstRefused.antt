-- If the reading of a tape ends at a block, that block is the first one that is refused, and every
-- other one that is refused stands behind it. `compile` (src/flow.rt) tells the tape's refusal by
-- these lemmas.
use Rattle.std.proofs.Common.{◌≡◌, ℕ, ◌≤◌, List, [], ◌∷◌, ◌++◌, map, refl, ap, arith, Option, Some, None, Result, Ok, Err, All, Contains}
use Rattle.std.proofs.lemmas.List.Elements.{All-nil, All-cons, All-weaker, All-contains, Contains-append_left, Contains-append_right, Contains-push}
use Rattle.nc_number.specs.Results.{◌>>=◌}
use Rattle.nc_number.specs.Answers.{Fails}
use Rattle.nc_number.specs.declared.fault.Failing.{Failing}
use Rattle.nc_number.specs.declared.fault.Failing.TheVariants.{Fault, NoMemory}
use Rattle.nc_text.specs.declared.tape.Block.{Block}
use Rattle.nc_text.specs.declared.tape.Program.{Program}
use Rattle.nc_number.specs.Rising.{RiseFrom}
use Rattle.nc_text.specs.Shape.{lines_in, blocks_in, IsTapeShape}
use Rattle.block_words.specs.declared.dialect.Dialect.{Dialect}
use Rattle.block_forms.specs.Forms.{BlockForm, block_or_refusal}
use Rattle.block_order.specs.Answers.{IfFault}
use Rattle.tape_flow.specs.declared.fault.FlowFault.{FlowFault}
use Rattle.tape_flow.specs.Forms.{ProgramForm, at_line, block_read, blocks_from, programs_from, programs_read}
use Rattle.tape_flow.specs.Controls.{controls}
use Rattle.tape_flow.specs.Exact.{IsOrderFault, IsRefused, block as by_block, order as by_order}

-- the refusal of a block where it has one, else that of the blocks behind it
abbrev pub refusal_or : {A : Type 0} → Result A FlowFault → Option FlowFault → Option FlowFault
refusal_or (Ok read) rest = rest
refusal_or (Err fault) rest = Some fault

-- the refusal of the first block that has one
abbrev pub first_refusal : Dialect → List Block → Option FlowFault
first_refusal dialect [] = None
first_refusal dialect (block ∷ blocks) = refusal_or (block_read dialect block) (first_refusal dialect blocks)

-- a reading that fails came to the first refusal; one that does not leaves it to what follows
abbrev pub Tells : {A : Type 0} → Result A FlowFault → Option FlowFault → Option FlowFault → Type 0
Tells (Ok read) first rest = first ≡ rest
Tells (Err fault) first rest = first ≡ Some fault

-- reading a block comes to its refusal, or hands over to what follows it
pub block_tells : {A B : Type 0} (read : Result A FlowFault) (go : A → Result B FlowFault) (rest more : Option FlowFault)
    → ((form : A) → Tells (go form) rest more) → Tells (read >>= go) (refusal_or read rest) more
block_tells (Ok form) go rest more behind = behind form
block_tells (Err fault) go rest more behind = refl

-- reading a list of blocks comes to its first refusal, or hands over to what follows it
blocks_tell : (dialect : Dialect) (blocks more : List Block) (done : List BlockForm)
    → Tells (blocks_from dialect done blocks) (first_refusal dialect (blocks ++ more)) (first_refusal dialect more)
blocks_tell dialect [] more done = refl
blocks_tell dialect (block ∷ blocks) more done =
    block_tells (block_read dialect block) (λ form. blocks_from dialect (done ++ form ∷ []) blocks)
    (first_refusal dialect (blocks ++ more)) (first_refusal dialect more)
    (λ form. blocks_tell dialect blocks more (done ++ form ∷ []))

-- reading a program comes to the first refusal of its blocks, or hands over to what follows it
pub program_tells : {A B C : Type 0} (read : Result A FlowFault) (make : A → B) (go : B → Result C FlowFault)
    (first rest more : Option FlowFault) → Tells read first rest → ((form : B) → Tells (go form) rest more)
    → Tells ((read >>= (λ blocks. Ok (make blocks))) >>= go) first more
program_tells (Ok blocks) make go first rest more told behind = rw told (behind (make blocks))
program_tells (Err fault) make go first rest more told behind = told

-- reading a tape comes to the refusal of its first block that has one, or no block has one
pub programs_tell : (dialect : Dialect) (tape : List Program) (done : List ProgramForm)
    → Tells (programs_from dialect done tape) (first_refusal dialect (blocks_in tape)) None
programs_tell dialect [] done = refl
programs_tell dialect (program ∷ programs) done =
    program_tells (blocks_from dialect [] program.blocks)
    (λ blocks. record { number = program.number; line = program.line; blocks = blocks })
    (λ form. programs_from dialect (done ++ form ∷ []) programs)
    (first_refusal dialect (program.blocks ++ blocks_in programs)) (first_refusal dialect (blocks_in programs)) None
    (blocks_tell dialect program.blocks (blocks_in programs) [])
    (λ form. programs_tell dialect programs (done ++ form ∷ []))

-- lines that rise from a bound rise from every lower one
lower : (ns : List ℕ) (low high : ℕ) → low ≤ high → RiseFrom high ns → RiseFrom low ns
lower [] low high below rise = tt
lower (n ∷ ns) low high below rise = (omega (arith, rise.0), rise.1)

-- the lines of blocks rise if those of the blocks, the O numbers between them counted, do
thinned : (blocks : List Block) (programs : List Program) (low : ℕ)
    → ((from : ℕ) → RiseFrom from (lines_in programs) → RiseFrom from (map (λ block. block.line) (blocks_in programs)))
    → RiseFrom low (map (λ block. block.line) blocks ++ lines_in programs)
    → RiseFrom low (map (λ block. block.line) (blocks ++ blocks_in programs))
thinned [] programs low behind rise = behind low rise
thinned (block ∷ blocks) programs low behind rise = (rise.0, thinned blocks programs block.line behind rise.1)

-- the lines of the blocks of a tape rise if those of its blocks and O numbers do
pub block_lines_rise : (tape : List Program) (low : ℕ) → RiseFrom low (lines_in tape)
    → RiseFrom low (map (λ block. block.line) (blocks_in tape))
block_lines_rise [] low rise = tt
block_lines_rise (program ∷ programs) low rise =
    lower (map (λ block. block.line) (program.blocks ++ blocks_in programs)) low program.line (omega (arith, rise.0))
    (thinned program.blocks programs program.line (λ from. block_lines_rise programs from) rise.1)

-- rising lines are all at the bound or after it
pub all_behind : (blocks : List Block) (low : ℕ) → RiseFrom low (map (λ block. block.line) blocks)
    → All (λ block. low ≤ block.line) blocks
all_behind [] low rise = All-nil (λ block. low ≤ block.line)
all_behind (block ∷ blocks) low rise =
    All-cons (λ other. low ≤ other.line) block blocks (omega (arith, rise.0))
    (All-weaker (λ other. block.line ≤ other.line) (λ other. low ≤ other.line)
    (λ other behind. omega (arith, rise.0, behind)) blocks (all_behind blocks block.line rise.1))

-- if this block is refused, its line is not before that of the fault
abbrev IsNoEarlier : Dialect → FlowFault → Block → Type 0
IsNoEarlier dialect fault block = (number : ℕ) → block_or_refusal dialect block ≡ Err number → fault.line ≤ block.line

-- no refusal among a block and those behind it is earlier than the first one, if that holds of
-- those behind it
least_at : (dialect : Dialect) (block : Block) (blocks : List Block) (fault : FlowFault) (read : Result BlockForm ℕ)
    → block_or_refusal dialect block ≡ read → refusal_or (at_line block.line read) (first_refusal dialect blocks) ≡ Some fault
    → All (λ other. block.line ≤ other.line) blocks
    → (first_refusal dialect blocks ≡ Some fault → All (IsNoEarlier dialect fault) blocks)
    → All (IsNoEarlier dialect fault) (block ∷ blocks)
least_at dialect block blocks fault (Ok form) is first behind rest =
    All-cons (IsNoEarlier dialect fault) block blocks (λ number refusal. cc) (rest first)
least_at dialect block blocks fault (Err own) is first behind rest =
    let here : block.line ≡ fault.line = ap (λ f. line_in f) first in
    All-cons (IsNoEarlier dialect fault) block blocks (λ number refusal. omega (arith, here))
    (All-weaker (λ other. block.line ≤ other.line) (IsNoEarlier dialect fault)
    (λ other later number refusal. omega (arith, here, later)) blocks behind)
  where
    line_in : Option FlowFault → ℕ
    line_in None = 0
    line_in (Some found) = found.line

-- of blocks on rising lines none is refused at an earlier line than the first refusal
least : (dialect : Dialect) (blocks : List Block) (low : ℕ) (fault : FlowFault) → first_refusal dialect blocks ≡ Some fault
    → RiseFrom low (map (λ block. block.line) blocks) → All (IsNoEarlier dialect fault) blocks
least dialect [] low fault first rise = All-nil (IsNoEarlier dialect fault)
least dialect (block ∷ blocks) low fault first rise =
    least_at dialect block blocks fault (block_or_refusal dialect block) refl first (all_behind blocks block.line rise.1)
    (λ rest. least dialect blocks block.line fault rest rise.1)

-- a block of the list is refused with the line and the number of this fault
abbrev IsThere : Dialect → List Block → FlowFault → Type 0
IsThere dialect blocks fault =
    (block : Block) × Contains blocks block × (block.line ≡ fault.line)
    × (block_or_refusal dialect block ≡ Err fault.number)

-- the first refusal is that of this block, or of one behind it
there_at : (dialect : Dialect) (block : Block) (blocks : List Block) (fault : FlowFault) (read : Result BlockForm ℕ)
    → block_or_refusal dialect block ≡ read → refusal_or (at_line block.line read) (first_refusal dialect blocks) ≡ Some fault
    → (first_refusal dialect blocks ≡ Some fault → IsThere dialect blocks fault) → IsThere dialect (block ∷ blocks) fault
there_at dialect block blocks fault (Ok form) is first rest =
    let there = rest first in
    (there.0, Contains-append_right (block ∷ []) blocks there.0 there.1, there.2, there.3)
there_at dialect block blocks fault (Err own) is first rest =
    let found : record { number = own; line = block.line } ≡ fault = cc in (
      block,
      Contains-append_left (block ∷ []) blocks block (Contains-push [] block),
      ap (λ f. f.line) found,
      rw is (ap (λ f. Err f.number) found),
    )

-- the first refusal is that of a block of the list
there : (dialect : Dialect) (blocks : List Block) (fault : FlowFault) → first_refusal dialect blocks ≡ Some fault
    → IsThere dialect blocks fault
there dialect [] fault first = cc
there dialect (block ∷ blocks) fault first =
    there_at dialect block blocks fault (block_or_refusal dialect block) refl first (λ rest. there dialect blocks fault rest)

-- a reading that fails came to the first refusal
pub comes_to : {A : Type 0} (read : Result A FlowFault) (fault : FlowFault) (first : Option FlowFault)
    → Tells read first None → read ≡ Err fault → first ≡ Some fault
comes_to read fault first told is = rw is at told

-- a tape of which a block does not read is refused by its first one
refused_by_block : (dialect : Dialect) (tape : List Program) (fault : FlowFault) → IsTapeShape tape
    → programs_read dialect tape ≡ Err fault → IsRefused dialect tape fault.line fault.number
refused_by_block dialect tape fault shape failed =
    let first = comes_to (programs_read dialect tape) fault (first_refusal dialect (blocks_in tape))
    (programs_tell dialect tape []) failed in
    let all = least dialect (blocks_in tape) 0 fault first (block_lines_rise tape 0 shape.lines) in
    by_block (there dialect (blocks_in tape) fault first)
    (λ other_line other has.
    let later : fault.line ≤ has.0.line =
    All-contains (IsNoEarlier dialect fault) (blocks_in tape) has.0 all has.1 other has.3 in
    omega (arith, later, has.2))

-- a reading that fails, for a refusal and not for memory, tells the refusal of the tape
pub refused_by_reading : (dialect : Dialect) (tape : List Program) (error : Failing FlowFault) → IsTapeShape tape
    → Fails error (programs_read dialect tape) → IfFault error (λ fault. IsRefused dialect tape fault.line fault.number)
refused_by_reading dialect tape (Fault fault) shape failed = refused_by_block dialect tape fault shape failed
refused_by_reading dialect tape NoMemory shape failed = tt

-- if all blocks read, the first fault of their order is the refusal of the tape
pub refused_by_order : (dialect : Dialect) (tape : List Program) (programs : List ProgramForm) (error : Failing FlowFault)
    → programs_read dialect tape ≡ Ok programs
    → IfFault error (λ fault. IsOrderFault (controls programs) fault.line fault.number)
    → IfFault error (λ fault. IsRefused dialect tape fault.line fault.number)
refused_by_order dialect tape programs (Fault fault) read first = by_order programs read first
refused_by_order dialect tape programs NoMemory read first = tt
