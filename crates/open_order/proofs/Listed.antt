-- The programs of a tape that was read stand in the text as the tape does: as many, on the same
-- lines, of as many blocks.
-- So `open_order` (src/ordering.rt) may call the check of their order.
use Rattle.std.proofs.Common.{◌≡◌, ℕ, ◌+◌, Bool, List, [], ◌∷◌, ◌++◌, length, map, refl, ap, sym, ◌∙◌, arith, Result, Ok, Err, IfOk, append_assoc, length-append, subst}
use Rattle.std.proofs.lemmas.List.{map-append, length-map, append-nil}
use Rattle.std.proofs.lemmas.Grind.{flat_map-append}
use Rattle.nc_text.specs.declared.tape.Block.{Block}
use Rattle.nc_text.specs.declared.tape.Program.{Program}
use Rattle.nc_number.specs.Rising.{RiseFrom}
use Rattle.nc_text.specs.Shape as tape
use Rattle.nc_text.specs.Shape.{IsTapeShape}
use Rattle.block_order.specs.declared.control.Control.{Control}
use Rattle.block_order.specs.declared.program.ControlBlock.{ControlBlock}
use Rattle.block_order.specs.declared.program.ControlProgram.{ControlProgram}
use Rattle.block_order.specs.Shape as order
use Rattle.block_order.specs.Shape.{IsReadTape}
use Rattle.block_forms.specs.declared.fault.FormFault.{FormFault}
use Rattle.open_forms.specs.Controls.{open_control, control_or_number}
use Rattle.tape_flow.proofs.Listed.{bound, text_lines}
use Rattle.open_order.specs.declared.premises.Premises.{Premises}
use Rattle.open_order.specs.Reading.{Basis, gone_from, at_line, block_read, blocks_from, program_read, programs_from, programs_read}

-- a control that is read has the line of its block
line_kept_at : (gone : ℕ → Bool) (block : Block) (read : Result Control FormFault)
    → IfOk (at_line gone block read) (λ c. c.line ≡ block.line)
line_kept_at gone block (Ok control) = refl
line_kept_at gone block (Err fault) = tt

-- a block that is read keeps its line
line_kept : (basis : Basis) (block : Block) → IfOk (block_read basis block) (λ c. c.line ≡ block.line)
line_kept basis block =
    line_kept_at (gone_from basis) block (control_or_number (open_control basis.premises.dialect block.body))

-- the lines of blocks that are read
abbrev control_lines : List ControlBlock → List ℕ
control_lines blocks = map (λ block. block.line) blocks

-- if one block more is read, its line goes from those ahead to those read
one_line_more : (done : List ControlBlock) (read : ControlBlock) (block : Block) (blocks : List Block) (whole : List ℕ)
    → read.line ≡ block.line → control_lines done ++ text_lines (block ∷ blocks) ≡ whole
    → control_lines (done ++ read ∷ []) ++ text_lines blocks ≡ whole
one_line_more done read block blocks whole same is =
    rw (
      map-append (λ b. b.line) done (read ∷ []),
      append_assoc (control_lines done) (read.line ∷ []) (text_lines blocks),
      same,
    ) is

-- the blocks that are read have the lines of those of the text
blocks_kept : (basis : Basis) (blocks : List Block) (done : List ControlBlock) (whole : List ℕ)
    → control_lines done ++ text_lines blocks ≡ whole
    → IfOk (blocks_from basis done blocks) (λ read. control_lines read ≡ whole)
blocks_kept basis [] done whole is = sym (append-nil (control_lines done)) ∙ is
blocks_kept basis (block ∷ blocks) done whole is =
    bound (block_read basis block) (λ read. blocks_from basis (done ++ read ∷ []) blocks) (λ read. read.line ≡ block.line)
    (λ read. control_lines read ≡ whole) (line_kept basis block)
    (λ read same. blocks_kept basis blocks (done ++ read ∷ []) whole (one_line_more done read block blocks whole same is))

-- what it means that a program that was read stands in the text as the program does: the O number
-- and each block are on the same lines
record IsLike (program : Program) (read : ControlProgram) : Type 0 where
  -- the O number is on the same line
  line : read.line ≡ program.line
  -- the blocks are on the same lines
  lines : control_lines read.blocks ≡ text_lines program.blocks

-- a program that is read stands in the text as the program does
program_kept : (basis : Basis) (program : Program) → IfOk (program_read basis program) (IsLike program)
program_kept basis program =
    bound (blocks_from basis [] program.blocks)
    (λ blocks. Ok (record { number = program.number; line = program.line; blocks = blocks }))
    (λ read. control_lines read ≡ text_lines program.blocks) (IsLike program)
    (blocks_kept basis program.blocks [] (text_lines program.blocks) refl)
    (λ read same. record { line = refl; lines = same })

-- a program that is read has the lines of that of the text
lines_like : (program : Program) (read : ControlProgram) → IsLike program read
    → order.lines_of_program read ≡ tape.lines_of_program program
lines_like program read like = rw (like.lines, like.line) refl

-- a program that is read has as many blocks as that of the text
count_like : (program : Program) (read : ControlProgram) → IsLike program read → length read.blocks ≡ length program.blocks
count_like program read like =
    sym (length-map read.blocks (λ b. b.line)) ∙ ap length like.lines ∙ length-map program.blocks (λ block. block.line)

-- the programs that are read, and those that follow, have these lines and so many blocks, and are
-- so many
record IsSplit (done : List ControlProgram) (rest : List Program) (lines : List ℕ) (blocks programs : ℕ) : Type 0 where
  -- all lines are these
  lines_are : order.lines_in done ++ tape.lines_in rest ≡ lines
  -- there are so many blocks
  blocks_are : length (order.blocks_in done) + length (tape.blocks_in rest) ≡ blocks
  -- there are so many programs
  programs_are : length done + length rest ≡ programs

-- if one program more is read, lines, blocks and programs stay as many together
split_more : (done : List ControlProgram) (read : ControlProgram) (program : Program) (rest : List Program) (lines : List ℕ)
    (blocks programs : ℕ) → IsLike program read → IsSplit done (program ∷ rest) lines blocks programs
    → IsSplit (done ++ read ∷ []) rest lines blocks programs
split_more done read program rest lines blocks programs like split =
    let own_lines = append-nil (order.lines_of_program read) in
    let own_blocks = append-nil read.blocks in
    let all_lines : order.lines_in (done ++ read ∷ []) ≡ order.lines_in done ++ tape.lines_of_program program =
    flat_map-append order.lines_of_program done (read ∷ [])
    ∙ ap (λ ns. order.lines_in done ++ ns) (own_lines ∙ lines_like program read like) in
    let all_blocks : order.blocks_in (done ++ read ∷ []) ≡ order.blocks_in done ++ read.blocks =
    flat_map-append (λ p. p.blocks) done (read ∷ []) ∙ ap (λ bs. order.blocks_in done ++ bs) own_blocks in
    let count : length (order.blocks_in (done ++ read ∷ [])) ≡ length (order.blocks_in done) + length program.blocks =
    ap length all_blocks ∙ length-append (order.blocks_in done) read.blocks
    ∙ ap (λ n. length (order.blocks_in done) + n) (count_like program read like) in
    let tail : length (tape.blocks_in (program ∷ rest)) ≡ length program.blocks + length (tape.blocks_in rest) =
    length-append program.blocks (tape.blocks_in rest) in
    record {
      lines_are = rw (
        all_lines,
        append_assoc (order.lines_in done) (tape.lines_of_program program) (tape.lines_in rest),
      )
          split.lines_are;
      blocks_are = omega (arith, count, tail, split.blocks_are);
      programs_are = rw (length-append done (read ∷ [])) (omega (arith, split.programs_are));
    }

-- programs that are read to the end have all lines, blocks and programs of the tape
programs_kept : (basis : Basis) (rest : List Program) (done : List ControlProgram) (lines : List ℕ) (blocks programs : ℕ)
    → IsSplit done rest lines blocks programs
    → IfOk (programs_from basis done rest) (λ read. IsSplit read [] lines blocks programs)
programs_kept basis [] done lines blocks programs split = split
programs_kept basis (program ∷ rest) done lines blocks programs split =
    bound (program_read basis program) (λ read. programs_from basis (done ++ read ∷ []) rest) (IsLike program)
    (λ read. IsSplit read [] lines blocks programs) (program_kept basis program)
    (λ read like. programs_kept basis rest (done ++ read ∷ []) lines blocks programs
    (split_more done read program rest lines blocks programs like split))

-- the controls of a tape that was read are as the check of their order wants them
pub read_listed : (premises : Premises) (programs : List Program) (read : List ControlProgram) → IsTapeShape programs
    → programs_read premises programs ≡ Ok read → IsReadTape read
read_listed premises programs read shape is =
    let blocks = length (tape.blocks_in programs) in
    let kept = programs_kept (record { premises = premises; tape = programs }) programs [] (tape.lines_in programs) blocks
    (length programs) (record { lines_are = refl; blocks_are = omega arith; programs_are = omega arith }) in
    let split : IsSplit read [] (tape.lines_in programs) blocks (length programs) = rw is at kept in
    let lines : tape.lines_in programs ≡ order.lines_in read = sym split.lines_are ∙ append-nil (order.lines_in read) in
    record {
      some = omega (arith, split.programs_are, shape.some);
      lines = subst (λ ns. RiseFrom 0 ns) lines shape.lines;
      few = omega (arith, split.blocks_are, shape.few);
    }
