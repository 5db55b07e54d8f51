-- The words of plain blocks. src/making.rt makes them. 70 is the letter F, 71 G, 73 I, 75 K, 82 R,
-- 88 X, 90 Z.
use Rattle.std.specs.Prelude.{ℕ, List, [], ◌∷◌, ◌++◌, Option, Some, None, ℤ, pos, min, codes, if◌then◌else◌}
use Rattle.nc_number.specs.Printed.{length_text, value_text}
use Rattle.plain_block.specs.declared.course.Course.{Course}
use Rattle.plain_block.specs.declared.course.Course.TheVariants.{Rapid, Cut, Thread, Arc}
use Rattle.plain_block.specs.declared.course.ArcCentre.{ArcCentre}
use Rattle.plain_block.specs.declared.course.ArcCentre.TheVariants.{Offset, Radius}
use Rattle.plain_block.specs.declared.block.PlainBlock.{PlainBlock}
use Rattle.plain_block.specs.declared.block.PlainBlock.TheVariants.{Move, Dwell}
use Rattle.line_text.specs.declared.body.Word.{Word}
use Rattle.line_text.specs.declared.body.Body.TheVariants.{Words}
use Rattle.nc_text.specs.declared.tape.Block.{Block}
use Rattle.plain_form.specs.declared.making.TheConstants.{LONGEST_REST}

-- the word of a letter and a text
abbrev pub made_word : ℕ → List ℕ → Word
made_word letter text = record { letter = letter; start = 0; end = 0; text = text }

-- the word of a length in 0.001 mm
abbrev pub length_word : ℕ → ℤ → Word
length_word letter at = made_word letter (length_text at)

-- the word of a number in millionths
abbrev pub number_word : ℕ → ℤ → Word
number_word letter number = made_word letter (value_text number)

-- the word of an axis, if the block moves it
abbrev pub axis_words : ℕ → Option ℤ → List Word
axis_words letter None = []
axis_words letter (Some at) = length_word letter at ∷ []

-- the word of a feed, if there is one
abbrev pub feed_words : Option ℤ → List Word
feed_words None = []
feed_words (Some feed) = number_word 70 feed ∷ []

-- the words of an arc's centre
abbrev pub centre_words : ArcCentre → List Word
centre_words (Offset i k) = length_word 73 i ∷ length_word 75 k ∷ []
centre_words (Radius r) = length_word 82 r ∷ []

-- the code of a course
abbrev pub code_text : Course → List ℕ
code_text Rapid = codes "00"
code_text Cut = codes "01"
code_text (Thread lead) = codes "32"
code_text (Arc clockwise centre) = if clockwise then codes "02" else codes "03"

-- what a course needs behind the axes
abbrev pub course_words : Course → Option ℤ → List Word
course_words Rapid feed = []
course_words Cut feed = feed_words feed
course_words (Thread lead) feed = feed_words (Some lead)
course_words (Arc clockwise centre) feed = centre_words centre ++ feed_words feed

-- the words of a rest
abbrev pub rest_words : ℕ → List Word
rest_words ms = made_word 71 (codes "04") ∷ length_word 88 (pos (min ms LONGEST_REST)) ∷ []

-- the words of a plain block; the feed of its cuts, if one is given
abbrev pub block_words : Option ℤ → PlainBlock → List Word
block_words feed (Move course x z) =
    made_word 71 (code_text course) ∷ (axis_words 88 x ++ (axis_words 90 z ++ course_words course feed))
block_words feed (Dwell ms) = rest_words ms

-- the plain block of these words
abbrev pub plain_line : List Word → Block
plain_line words = record { line = 0; sequence = None; body = Words words }
