-- The programs of a tape: its lines cut at the O numbers, and their blocks, as nc_text's types have
-- them. Relation says by it which tape a text is; no other crate cites it.
use Rattle.std.specs.Prelude.{◌≡◌, ℕ, ◌+◌, ◌⊎◌, List, [], ◌∷◌, ◌++◌, length, All, Option, Some, None}
use Rattle.line_text.specs.declared.piece.Piece.{Piece}
use Rattle.nc_text.specs.declared.tape.Block.{Block}
use Rattle.line_text.specs.declared.body.Body.{Body}
use Rattle.line_text.specs.declared.body.Body.TheVariants.{Words, Statement}
use Rattle.nc_text.specs.declared.tape.Program.{Program}
use Rattle.line_text.specs.declared.body.Word.{Word}
use Rattle.nc_text.specs.Lines.{Line}
use Rattle.tape_relation.specs.Numbers.{IsSequenceNumber, IsProgramNumber}
use Rattle.tape_relation.specs.LineGrammar.{Sentence, NoBlock, ProgramNumber, WordBlock, StatementBlock}
use Rattle.tape_relation.specs.LineAlone.{Says, SaysBlock, SaysProgram, IsNumbering}

-- none of the words is a sequence number
abbrev pub HasNoNumber : List Piece → Type 0
HasNoNumber words = All (λ word. IsNumbering word → ⊥) words

-- the literal of the last of the words that are sequence numbers, or none if no word is one
abbrev pub IsLastNumber : List Piece → Option (List ℕ) → Type 0
IsLastNumber words None = HasNoNumber words
IsLastNumber words (Some text) = (front : List Piece) × (word : Piece) × (back : List Piece)
    × (words ≡ front ++ word ∷ back) × IsNumbering word × (text ≡ word.text) × HasNoNumber back

-- the sequence number that this literal writes, or none without a literal
abbrev pub IsSequence : Option (List ℕ) → Option ℕ → Type 0
IsSequence None sequence = sequence ≡ None
IsSequence (Some text) sequence = (n : ℕ) × (sequence ≡ Some n) × IsSequenceNumber text n

-- a piece, the grammar's word, as a word of the tape
abbrev pub word_of : Piece → Word
word_of word = record { letter = word.letter; start = word.start; end = word.end; text = word.text }

-- the block's words are those that are no sequence numbers
abbrev pub AreOthers : List Piece → List Word → Type 0
AreOthers [] others = others ≡ []
AreOthers (word ∷ words) others = (IsNumbering word × AreOthers words others)
    ⊎ ((IsNumbering word → ⊥) × ((later : List Word) × (others ≡ word_of word ∷ later) × AreOthers words later))

-- the sentence is a block with this sequence number and this body
abbrev pub HasBody : Sentence → Option ℕ → Body → Type 0
HasBody NoBlock sequence body = ⊥
HasBody (ProgramNumber text) sequence body = ⊥
HasBody (WordBlock words) sequence body = (number : Option (List ℕ)) × IsLastNumber words number
    × IsSequence number sequence × ((others : List Word) × AreOthers words others × (body ≡ Words others))
HasBody (StatementBlock number text) sequence body = IsSequence number sequence × (body ≡ Statement text)

-- the line of this number says this block
abbrev pub IsBlockOn : ℕ → ℕ → Line → Block → Type 0
IsBlockOn skips number line block = (sentence : Sentence) × Says skips line sentence
    × HasBody sentence block.sequence block.body × (block.line ≡ number)

-- the blocks are those that these lines say; so many lines stand before these
abbrev pub AreBlocks : ℕ → ℕ → List Line → List Block → Type 0
AreBlocks skips before [] blocks = blocks ≡ []
AreBlocks skips before (line ∷ lines) blocks =
    ((block : Block) × (later : List Block) × (blocks ≡ block ∷ later) × IsBlockOn skips (before + 1) line block
    × AreBlocks skips (before + 1) lines later)
    ⊎ ((SaysBlock skips line → ⊥) × AreBlocks skips (before + 1) lines blocks)

-- the line says this O number, in its range
abbrev pub SaysNumber : ℕ → Line → ℕ → Type 0
SaysNumber skips line n = (text : List ℕ) × Says skips line (ProgramNumber text) × IsProgramNumber text n

-- these lines, behind so many, are the programs: each begins with the line of its O number, and has
-- the blocks of the lines up to the next O number
abbrev pub ArePrograms : ℕ → ℕ → List Line → List Program → Type 0
ArePrograms skips before lines [] = lines ≡ []
ArePrograms skips before lines (program ∷ programs) = (head : Line) × (own : List Line) × (others : List Line)
    × (lines ≡ head ∷ (own ++ others))
    × SaysNumber skips head program.number × (program.line ≡ before + 1)
    × All (λ line. SaysProgram skips line → ⊥) own × AreBlocks skips (before + 1) own program.blocks
    × ArePrograms skips (before + 1 + length own) others programs
