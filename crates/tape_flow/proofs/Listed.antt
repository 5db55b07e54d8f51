-- The programs of a tape that was read stand in the text as the tape does: as many, on the same
-- lines, of as many blocks. So the check of their order may be called on them (src/flow.rt).
use Rattle.std.proofs.Common.{◌≡◌, ℕ, ◌+◌, List, [], ◌∷◌, ◌++◌, length, map, refl, ap, sym, ◌∙◌, arith, Result, Ok, Err, IfOk, append_assoc, length-append, subst}
use Rattle.std.proofs.lemmas.List.{map-append, length-map, append-nil}
use Rattle.std.proofs.lemmas.Simd.{map-map}
use Rattle.std.proofs.lemmas.Grind.{flat_map-append}
use Rattle.nc_number.specs.Results.{◌>>=◌}
use Rattle.nc_text.specs.declared.tape.Block.{Block}
use Rattle.nc_text.specs.declared.tape.Program.{Program}
use Rattle.nc_number.specs.Rising.{RiseFrom}
use Rattle.nc_text.specs.Shape as tape
use Rattle.nc_text.specs.Shape.{IsTapeShape}
use Rattle.block_words.specs.declared.dialect.Dialect.{Dialect}
use Rattle.block_forms.specs.Forms.{BlockForm, Form, form_or_refusal, block_at}
use Rattle.block_order.specs.Shape as order
use Rattle.block_order.specs.Shape.{IsReadTape}
use Rattle.tape_flow.specs.Forms.{ProgramForm, at_line, block_read, blocks_from, program_read, programs_from, programs_read}
use Rattle.tape_flow.specs.Controls.{control_block, control_program, controls}

-- what holds of a first step's answer is handed to the second
pub bound : {A B E : Type 0} (read : Result A E) (go : A → Result B E) (P : A → Type 0) (Q : B → Type 0)
    → IfOk read P → ((x : A) → P x → IfOk (go x) Q) → IfOk (read >>= go) Q
bound (Ok x) go P Q holds step = step x holds
bound (Err e) go P Q holds step = tt

-- the form of a block, if it is not refused, has the line of the block
line_kept_at : (block : Block) (read : Result Form ℕ) → IfOk (at_line block.line (block_at block read)) (λ form. form.line ≡ block.line)
line_kept_at block (Ok form) = refl
line_kept_at block (Err number) = tt

-- a block that is read has the line of the block of the text
line_kept : (dialect : Dialect) (block : Block) → IfOk (block_read dialect block) (λ form. form.line ≡ block.line)
line_kept dialect block = line_kept_at block (form_or_refusal dialect block.body)

-- the lines of blocks that were read
abbrev form_lines : List BlockForm → List ℕ
form_lines forms = map (λ form. form.line) forms

-- the lines of blocks of the text
abbrev pub text_lines : List Block → List ℕ
text_lines blocks = map (λ block. block.line) blocks

-- if one block more is read, its line goes from those ahead to those read
one_line_more : (done : List BlockForm) (form : BlockForm) (block : Block) (blocks : List Block) (whole : List ℕ)
    → form.line ≡ block.line → form_lines done ++ text_lines (block ∷ blocks) ≡ whole
    → form_lines (done ++ form ∷ []) ++ text_lines blocks ≡ whole
one_line_more done form block blocks whole same is =
    rw (
      map-append (λ f. f.line) done (form ∷ []),
      append_assoc (form_lines done) (form.line ∷ []) (text_lines blocks),
      same,
    ) is

-- blocks that are read keep their lines
blocks_kept : (dialect : Dialect) (blocks : List Block) (done : List BlockForm) (whole : List ℕ)
    → form_lines done ++ text_lines blocks ≡ whole
    → IfOk (blocks_from dialect done blocks) (λ forms. form_lines forms ≡ whole)
blocks_kept dialect [] done whole is = sym (append-nil (form_lines done)) ∙ is
blocks_kept dialect (block ∷ blocks) done whole is =
    bound (block_read dialect block) (λ form. blocks_from dialect (done ++ form ∷ []) blocks) (λ form. form.line ≡ block.line)
    (λ forms. form_lines forms ≡ whole) (line_kept dialect block)
    (λ form same. blocks_kept dialect blocks (done ++ form ∷ []) whole (one_line_more done form block blocks whole same is))

-- a program's form stands in the text as the program does
record IsLike (program : Program) (form : ProgramForm) : Type 0 where
  -- the O number is on the same line
  line : form.line ≡ program.line
  -- the blocks are on the same lines
  lines : form_lines form.blocks ≡ text_lines program.blocks

-- a program that is read stands in the text as the program does
program_kept : (dialect : Dialect) (program : Program) → IfOk (program_read dialect program) (IsLike program)
program_kept dialect program =
    bound (blocks_from dialect [] program.blocks)
    (λ blocks. Ok (record { number = program.number; line = program.line; blocks = blocks }))
    (λ forms. form_lines forms ≡ text_lines program.blocks) (IsLike program)
    (blocks_kept dialect program.blocks [] (text_lines program.blocks) refl)
    (λ forms same. record { line = refl; lines = same })

-- the control of a program that is read has the lines of the program of the text
lines_like : (program : Program) (form : ProgramForm) → IsLike program form
    → order.lines_of_program (control_program form) ≡ tape.lines_of_program program
lines_like program form like =
    let e : map (λ block. block.line) (map control_block form.blocks) ≡ form_lines form.blocks =
    map-map (λ block. block.line) control_block form.blocks in
    rw (e, like.lines, like.line) refl

-- the control of a program that is read has as many blocks as the program of the text
count_like : (program : Program) (form : ProgramForm) → IsLike program form
    → length (map control_block form.blocks) ≡ length program.blocks
count_like program form like =
    length-map form.blocks control_block ∙ sym (length-map form.blocks (λ f. f.line)) ∙ ap length like.lines
    ∙ length-map program.blocks (λ block. block.line)

-- the programs that are read, and those that follow, have these lines and so many blocks, and are
-- so many
record IsSplit (done : List ProgramForm) (rest : List Program) (lines : List ℕ) (blocks programs : ℕ) : Type 0 where
  -- all lines are these
  lines_are : order.lines_in (controls done) ++ tape.lines_in rest ≡ lines
  -- there are so many blocks
  blocks_are : length (order.blocks_in (controls done)) + length (tape.blocks_in rest) ≡ blocks
  -- there are so many programs
  programs_are : length done + length rest ≡ programs

-- if one program more is read, lines, blocks and programs stay as many together
split_more : (done : List ProgramForm) (form : ProgramForm) (program : Program) (rest : List Program) (lines : List ℕ)
    (blocks programs : ℕ) → IsLike program form → IsSplit done (program ∷ rest) lines blocks programs
    → IsSplit (done ++ form ∷ []) rest lines blocks programs
split_more done form program rest lines blocks programs like split =
    let each = control_program form in
    let grown : controls (done ++ form ∷ []) ≡ controls done ++ each ∷ [] = map-append control_program done (form ∷ []) in
    let own_lines = append-nil (order.lines_of_program each) in
    let own_blocks = append-nil each.blocks in
    let all_lines : order.lines_in (controls done ++ each ∷ [])
    ≡ order.lines_in (controls done) ++ tape.lines_of_program program =
    flat_map-append order.lines_of_program (controls done) (each ∷ [])
    ∙ ap (λ ns. order.lines_in (controls done) ++ ns) (own_lines ∙ lines_like program form like) in
    let all_blocks : order.blocks_in (controls done ++ each ∷ []) ≡ order.blocks_in (controls done) ++ each.blocks =
    flat_map-append (λ p. p.blocks) (controls done) (each ∷ [])
    ∙ ap (λ bs. order.blocks_in (controls done) ++ bs) own_blocks in
    let count : length (order.blocks_in (controls done ++ each ∷ []))
    ≡ length (order.blocks_in (controls done)) + length program.blocks =
    ap length all_blocks ∙ length-append (order.blocks_in (controls done)) each.blocks
    ∙ ap (λ n. length (order.blocks_in (controls done)) + n) (count_like program form like) in
    let tail : length (tape.blocks_in (program ∷ rest)) ≡ length program.blocks + length (tape.blocks_in rest) =
    length-append program.blocks (tape.blocks_in rest) in
    record {
      lines_are = rw (
        grown,
        all_lines,
        append_assoc (order.lines_in (controls done)) (tape.lines_of_program program) (tape.lines_in rest),
      )
          split.lines_are;
      blocks_are = rw grown (omega (arith, count, tail, split.blocks_are));
      programs_are = rw (length-append done (form ∷ [])) (omega (arith, split.programs_are));
    }

-- programs that are read to the end have all lines, blocks and programs of the tape
programs_kept : (dialect : Dialect) (rest : List Program) (done : List ProgramForm) (lines : List ℕ) (blocks programs : ℕ)
    → IsSplit done rest lines blocks programs
    → IfOk (programs_from dialect done rest) (λ forms. IsSplit forms [] lines blocks programs)
programs_kept dialect [] done lines blocks programs split = split
programs_kept dialect (program ∷ rest) done lines blocks programs split =
    bound (program_read dialect program) (λ form. programs_from dialect (done ++ form ∷ []) rest) (IsLike program)
    (λ forms. IsSplit forms [] lines blocks programs) (program_kept dialect program)
    (λ form like. programs_kept dialect rest (done ++ form ∷ []) lines blocks programs
    (split_more done form program rest lines blocks programs like split))

-- the controls of a tape that was read are as the check of their order wants them
pub read_listed : (dialect : Dialect) (programs : List Program) (forms : List ProgramForm) → IsTapeShape programs
    → programs_read dialect programs ≡ Ok forms → IsReadTape (controls forms)
read_listed dialect programs forms shape read =
    let blocks = length (tape.blocks_in programs) in
    let kept = programs_kept dialect programs [] (tape.lines_in programs) blocks (length programs)
    (record { lines_are = refl; blocks_are = omega arith; programs_are = omega arith }) in
    let split : IsSplit forms [] (tape.lines_in programs) blocks (length programs) = rw read at kept in
    let lines : tape.lines_in programs ≡ order.lines_in (controls forms) =
    sym split.lines_are ∙ append-nil (order.lines_in (controls forms)) in
    record {
      some = rw (length-map forms control_program) (omega (arith, split.programs_are, shape.some));
      lines = subst (λ ns. RiseFrom 0 ns) lines shape.lines;
      few = omega (arith, split.blocks_are, shape.few);
    }
