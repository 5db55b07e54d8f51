-- The text of the plain blocks that stand for a line. src/block_text.rt prints it. 32 is the blank,
-- 10 the line feed, 41 closes a comment.
use Rattle.std.specs.Prelude.{ℕ, List, [], ◌∷◌, ◌++◌, Option, Some, None, codes, decimal}
use Rattle.std.specs.List.{flat_map}
use Rattle.text_pieces.specs.Pieces.{text_with_number}
use Rattle.line_text.specs.declared.body.Word.{Word}
use Rattle.line_text.specs.declared.body.Body.{Body}
use Rattle.line_text.specs.declared.body.Body.TheVariants.{Words, Statement}
use Rattle.nc_text.specs.declared.tape.Block.{Block}

-- a word and a blank
abbrev pub word_text : Word → List ℕ
word_text word = word.letter ∷ (word.text ++ 32 ∷ [])

-- what a block says, a blank behind each word
abbrev pub body_text : Body → List ℕ
body_text (Words words) = flat_map word_text words
body_text (Statement text) = text ++ 32 ∷ []

-- a sequence number, if there is one, and a blank
abbrev pub number_text : Option ℕ → List ℕ
number_text None = []
number_text (Some number) = text_with_number (codes "N") number ++ 32 ∷ []

-- the comment of a line, and the line's end
abbrev pub tail_text : ℕ → List ℕ
tail_text line = text_with_number (codes "(") line ++ 41 ∷ 10 ∷ []

-- comments of the tape, if there are any, and a byte behind them
abbrev pub comment_text : List ℕ → ℕ → List ℕ
comment_text [] behind = []
comment_text (byte ∷ bytes) behind = byte ∷ (bytes ++ behind ∷ [])

-- a block that stands for a line with these comments
abbrev pub block_text : ℕ → Option ℕ → List ℕ → Block → List ℕ
block_text line sequence comment block =
    number_text sequence ++ (body_text block.body ++ (comment_text comment 32 ++ tail_text line))

-- the blocks that stand for a line; its sequence number and its comments stand with the first, and the
-- comments alone if there is no block
abbrev pub blocks_text : ℕ → Option ℕ → List ℕ → List Block → List ℕ
blocks_text line sequence comment [] = comment_text comment 10
blocks_text line sequence comment (block ∷ blocks) =
    block_text line sequence comment block ++ blocks_text line None [] blocks
