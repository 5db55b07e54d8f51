-- The blocks of a tape that was read stand on rising lines (the law of src/lines.rt). Each line
-- that is read keeps this of the blocks so far.
use Rattle.std.proofs.Common.{◌≡◌, ℕ, ◌+◌, Bool, true, false, List, [], ◌∷◌, ◌++◌, length, map, Option, Some, None, Result, Ok, Err, refl, ap, sym, subst, ◌∙◌, arith, append_assoc, if◌then◌else◌}
use Rattle.std.specs.Prelude.{IfOk}
use Rattle.std.specs.Option.{option_to_list, is_none}
use Rattle.std.proofs.lemmas.List.{append-nil, map-append}
use Rattle.nc_text.specs.declared.tape.Block.{Block}
use Rattle.nc_text.specs.declared.tape.Program.{Program}
use Rattle.line_text.specs.declared.refusal.Refusal.{Refusal}
use Rattle.line_text.specs.declared.said.Said.{Said}
use Rattle.line_text.specs.declared.said.Said.TheVariants as said
use Rattle.nc_text.specs.Lines.{Line, lines_of, is_percent}
use Rattle.line_text.specs.Said.{line_says}
use Rattle.nc_text.specs.Shape.{blocks_in}
use Rattle.nc_text.specs.ReadShape.{RiseTo}
use Rattle.nc_text.specs.Tape.{Before, Answer, nothing_read, programs_of, next, with_said, with_block, program_at, block_at, said_refusal, percent_refusal, outer_refusal, unless_refused, after_said, goes_on, in_rest, in_body, in_leader, tape_begun, tape_of}
use Rattle.nc_text.proofs.Shaping.{blocks_last, rise_from, rise_last, rise_on}
use Rattle.flow_laws.specs.Answers.{HasRisingBlocks}

-- The lines of the blocks of these programs.
abbrev lines : List Program → List ℕ
lines tape = map (λ block. block.line) (blocks_in tape)

-- The blocks so far stand on rising lines, and none stands past the lines that were read.
abbrev Rises : Before → Type 0
Rises before = RiseTo 0 (lines (programs_of before)) before.lines

-- The blocks of the tape that is answered stand on rising lines, if one is answered.
abbrev AnswerRises : Answer → Type 0
AnswerRises answer = IfOk answer HasRisingBlocks

-- An O number adds no line of a block.
lines_with_program : (programs : List Program) (line number : ℕ) → lines (programs ++ program_at line number ∷ []) ≡ lines programs
lines_with_program programs line number =
    ap (λ bs. map (λ block. block.line) bs) (blocks_last programs (program_at line number) ∙ append-nil (blocks_in programs))

-- A block that is put to the last program adds its line at the end.
lines_with_block : (programs : List Program) (program : Program) (block : Block)
    → lines (programs ++ record program { blocks = program.blocks ++ block ∷ [] } ∷ []) ≡ lines (programs ++ program ∷ []) ++ block.line ∷ []
lines_with_block programs program block =
    ap (λ bs. map (λ b. b.line) bs)
    (blocks_last programs (record program { blocks = program.blocks ++ block ∷ [] })
    ∙ sym (append_assoc (blocks_in programs) program.blocks (block ∷ []))
    ∙ ap (λ bs. bs ++ block ∷ []) (sym (blocks_last programs program)))
    ∙ map-append (λ b. b.line) (blocks_in (programs ++ program ∷ [])) (block ∷ [])

-- After a line that says nothing the lines of the blocks so far rise.
line_more : (before : Before) (len : ℕ) (ended : Bool) → Rises before → Rises (next before len ended)
line_more before len ended h = rise_on (lines (programs_of before)) 0 before.lines (before.lines + 1) h (omega arith)

-- With a block on the next line the lines of the blocks so far rise.
block_more : (done : List Program) (current : Option Program) (block : Block) (n : ℕ) → block.line ≡ n + 1
    → RiseTo 0 (lines (done ++ option_to_list current)) n
    → RiseTo 0 (lines (done ++ option_to_list (with_block block current))) (n + 1)
block_more done None block n at h = rise_on (lines (done ++ [])) 0 n (n + 1) h (omega arith)
block_more done (Some program) block n at h =
    rw (lines_with_block done program block, at) (rise_last (lines (done ++ program ∷ [])) 0 n (n + 1) h (omega arith))

-- Whatever the next line says, the lines of the blocks so far rise.
said_more : (before : Before) (what : Said) (len : ℕ) (ended : Bool) → Rises before → Rises (next (with_said before what) len ended)
said_more before said.Nothing len ended h = line_more before len ended h
said_more before (said.Program None) len ended h = line_more before len ended h
said_more before (said.Program (Some number)) len ended h =
    rw (lines_with_program (programs_of before) (before.lines + 1) number) (line_more before len ended h)
said_more before (said.Block block) len ended h =
    block_more before.done before.current (block_at (before.lines + 1) block) before.lines refl h

-- If what follows a line answers rising lines, so does the reading from it on, also if the line is
-- refused.
goes : (before after : Before) (refusal : Option Refusal) (rest : Before → Answer) → AnswerRises (rest after)
    → AnswerRises (goes_on before (unless_refused refusal after) rest)
goes before after None rest h = h
goes before after (Some refusal) rest h = tt

-- If what follows a line answers rising lines whatever the line says, so does the reading from this
-- line on.
goes_said : (before : Before) (len : ℕ) (ended : Bool) (says : Result Said Refusal) (rest : Before → Answer)
    → ((what : Said) → AnswerRises (rest (next (with_said before what) len ended)))
    → AnswerRises (goes_on before (after_said before len ended says) rest)
goes_said before len ended (Ok what) rest h =
    goes before (next (with_said before what) len ended) (said_refusal before len ended what) rest (h what)
goes_said before len ended (Err refusal) rest h = tt

-- If two readings answer rising lines, so does whichever is taken.
either : (test : Bool) (one other : Answer) → AnswerRises one → AnswerRises other → AnswerRises (if test then one else other)
either true one other h k = h
either false one other h k = k

-- What is read behind the second `%` answers rising lines.
rest_rises : (rest : List Line) (before : Before) → Rises before → AnswerRises (in_rest rest before)
rest_rises [] before h =
    either (is_none before.current) _ (Ok (programs_of before)) tt (rise_from (lines (programs_of before)) 0 before.lines h)
rest_rises (line ∷ rest) before h =
    goes before (next before (length line.bytes) line.ended) (outer_refusal before (length line.bytes) line.ended) (in_rest rest)
    (rest_rises rest (next before (length line.bytes) line.ended) (line_more before (length line.bytes) line.ended h))

-- What is read between the two `%`, and behind them, answers rising lines.
body_rises : (skips : ℕ) (rest : List Line) (before : Before) → Rises before → AnswerRises (in_body skips rest before)
body_rises skips [] before h = either (is_none before.current) _ _ tt tt
body_rises skips (line ∷ rest) before h =
    either (is_percent line.bytes) _ _
    (goes before (next before (length line.bytes) line.ended) (percent_refusal before (length line.bytes) line.ended) (in_rest rest)
    (rest_rises rest (next before (length line.bytes) line.ended) (line_more before (length line.bytes) line.ended h)))
    (goes_said before (length line.bytes) line.ended (line_says skips line.bytes line.ended) (in_body skips rest)
    (λ what. body_rises skips rest (next (with_said before what) (length line.bytes) line.ended)
    (said_more before what (length line.bytes) line.ended h)))

-- What is read from before the first `%` on answers rising lines.
leader_rises : (skips : ℕ) (rest : List Line) (before : Before) → Rises before → AnswerRises (in_leader skips rest before)
leader_rises skips [] before h = tt
leader_rises skips (line ∷ rest) before h =
    let after = next before (length line.bytes) line.ended in
    let own : Rises after = line_more before (length line.bytes) line.ended h in
    either (is_percent line.bytes) _ _
    (goes before after (percent_refusal before (length line.bytes) line.ended) (λ b. in_body skips rest (tape_begun b))
    (body_rises skips rest (tape_begun after) own))
    (goes before after (outer_refusal before (length line.bytes) line.ended) (in_leader skips rest) (leader_rises skips rest after own))

-- What is read of a whole text answers rising lines.
read_rises : (skips : ℕ) (text : List ℕ) → AnswerRises (tape_of skips text)
unfolding tape_of
read_rises skips text = leader_rises skips (lines_of text) nothing_read (omega arith)

-- The law: the blocks of a tape that was read stand on rising lines.
pub blocks_rise : (skips : ℕ) (text : List ℕ) (tape : List Program) → tape_of skips text ≡ Ok tape → HasRisingBlocks tape
blocks_rise skips text tape read = subst AnswerRises read (read_rises skips text)
