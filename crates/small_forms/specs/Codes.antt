-- Blocks of several M codes, or with words that change nothing here. src/codes.rt makes the blocks. 77
-- is the letter M.
use Rattle.std.specs.Prelude.{ℕ, Bool, true, false, not, ◌&&◌, ◌||◌, ◌==◌, nat_lt, count_by, List, [], ◌∷◌, ◌++◌, Option, Some, None, slice_get, if◌then◌else◌}
use Rattle.line_text.specs.declared.body.Word.{Word}
use Rattle.line_text.specs.declared.body.Body.{Body}
use Rattle.line_text.specs.declared.body.Body.TheVariants.{Words, Statement}
use Rattle.nc_text.specs.declared.tape.Block.{Block}
use Rattle.plain_form.specs.declared.answer.FormAnswer.{FormAnswer}
use Rattle.plain_form.specs.declared.answer.FormAnswer.TheVariants.{NotMine, Written}
use Rattle.plain_form.specs.declared.scene.Scene.{Scene}
use Rattle.plain_form.specs.declared.settings.FormSettings.{FormSettings}
use Rattle.plain_form.specs.Made.{made_word, plain_line}
use Rattle.code_tables.specs.declared.system.System.{System}
use Rattle.small_forms.specs.Idle.{TasteView, is_changed, kept_words, names_spindle}

-- the word is an M code
abbrev pub is_machine_code : Word → Bool
is_machine_code word = word.letter == 77

-- an M code was seen, this word included
abbrev pub seen_behind : Bool → Word → Bool
seen_behind seen word = seen || is_machine_code word

-- the word as one that is printed
abbrev pub copied_word : Word → Word
copied_word word = made_word word.letter word.text

-- the word, unless it is an M code behind another
abbrev pub first_words : Bool → Word → List Word
first_words seen word = if seen && is_machine_code word then [] else copied_word word ∷ []

-- the words but for the M codes behind the first
abbrev pub first_from : Bool → List Word → List Word
first_from seen [] = []
first_from seen (word ∷ words) = first_words seen word ++ first_from (seen_behind seen word) words

-- the block of the word, if it is an M code behind another
abbrev pub later_blocks : Bool → Word → List Block
later_blocks seen word = if not (seen && is_machine_code word) then [] else plain_line (copied_word word ∷ []) ∷ []

-- the blocks of the M codes behind the first
abbrev pub later_from : Bool → List Word → List Block
later_from seen [] = []
later_from seen (word ∷ words) = later_blocks seen word ++ later_from (seen_behind seen word) words

-- a line of these blocks as an answer
abbrev pub one_line : List Block → FormAnswer
one_line blocks = Written (record { blocks = blocks } ∷ [])

-- a block each for the M codes; the other words stand with the first; no block for no words
abbrev pub blocks_of : List Word → List Block
blocks_of [] = []
blocks_of (word ∷ words) = plain_line (first_from false (word ∷ words)) ∷ later_from false (word ∷ words)

-- what words are written as, if they change or have several M codes
abbrev pub words_answer : TasteView → List Word → FormAnswer
words_answer taste words =
    if not (is_changed taste words) && nat_lt (count_by is_machine_code words) 2 then NotMine
    else one_line (blocks_of (kept_words taste words))

-- what a block is written as
abbrev pub body_answer : System → List ℕ → Body → FormAnswer
body_answer system idle (Words words) =
    words_answer (record { system = system; idle = idle; beside = names_spindle words }) words
body_answer system idle (Statement text) = NotMine

-- the same where the block is found
abbrev pub block_answer : System → List ℕ → Option Block → FormAnswer
block_answer system idle None = NotMine
block_answer system idle (Some block) = body_answer system idle block.body

-- the form of a block that has words which change nothing here, G31, or two or more M codes
abbrev pub codes_form : List Block → ℕ → Scene → FormSettings → FormAnswer
codes_form blocks place scene settings = block_answer scene.system settings.idle (slice_get blocks place)
