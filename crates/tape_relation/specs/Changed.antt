-- The answer of a tape's text with other line numbers or other words: what the laws of edits
-- (src/edits.rt) say that an edit changes. For this crate alone.
use Rattle.std.specs.Prelude.{ℕ, ◌-◌, nat_lt, map, Ok, Err, if◌then◌else◌}
use Rattle.line_text.specs.declared.body.Word.{Word}
use Rattle.line_text.specs.declared.body.Body.{Body}
use Rattle.line_text.specs.declared.body.Body.TheVariants.{Words, Statement}
use Rattle.nc_text.specs.declared.tape.Block.{Block}
use Rattle.nc_text.specs.declared.tape.Program.{Program}
use Rattle.nc_text.specs.Tape.{Answer}

-- the body of a block with each of its words changed; a statement stays
abbrev pub changed_body : (Word → Word) → Body → Body
changed_body word (Words words) = Words (map word words)
changed_body word (Statement text) = Statement text

-- a block with its line number and its words changed
abbrev pub changed_block : (ℕ → ℕ) → (Word → Word) → Block → Block
changed_block line word block = record block { line = line block.line; body = changed_body word block.body }

-- a program with the number of each line changed, and each word of its blocks
abbrev pub changed_program : (ℕ → ℕ) → (Word → Word) → Program → Program
changed_program line word program = record program { line = line program.line; blocks = map (changed_block line word) program.blocks }

-- an answer with each line number and each word changed
abbrev pub changed_answer : (ℕ → ℕ) → (Word → Word) → Answer → Answer
changed_answer line word (Ok programs) = Ok (map (changed_program line word) programs)
changed_answer line word (Err fault) = Err (record fault { line = line fault.line })

-- the number that a line has after the line that follows `before` lines was taken out
abbrev pub lower : ℕ → ℕ → ℕ
lower before line = if nat_lt before line then line - 1 else line

-- an answer with each line number above `before` lowered by one
abbrev pub lowered_answer : ℕ → Answer → Answer
lowered_answer before answer = changed_answer (lower before) (λ word. word) answer

-- a word without its place in the line
abbrev pub without_place : Word → Word
without_place word = record word { start = 0; end = 0 }

-- an answer without the places of its words
abbrev pub forget_places : Answer → Answer
forget_places answer = changed_answer (λ line. line) without_place answer
