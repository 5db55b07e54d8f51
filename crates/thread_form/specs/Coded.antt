-- The lines of a thread: plain blocks, with the code that a thread along a line has in the system.
-- src/coded.rt makes them. 70 is the letter F, 71 G, 88 X, 90 Z.
use Rattle.std.specs.Prelude.{List, ◌∷◌, ◌++◌, codes, map, Option, Some, None, ℤ}
use Rattle.code_tables.specs.declared.system.System.{System}
use Rattle.code_tables.specs.declared.system.System.TheVariants.{A, B}
use Rattle.line_text.specs.declared.body.Word.{Word}
use Rattle.nc_text.specs.declared.tape.Block.{Block}
use Rattle.plain_block.specs.declared.course.Course.TheVariants.{Rapid, Cut, Thread, Arc}
use Rattle.plain_block.specs.declared.block.PlainBlock.{PlainBlock}
use Rattle.plain_block.specs.declared.block.PlainBlock.TheVariants.{Move, Dwell}
use Rattle.plain_form.specs.Made.{made_word, axis_words, number_word, feed_words, block_words, plain_line}

-- the words of a thread in system B
abbrev pub thread_words : Option ℤ → Option ℤ → ℤ → List Word
thread_words x z lead = made_word 71 (codes "33") ∷ (axis_words 88 x ++ (axis_words 90 z ++ feed_words (Some lead)))

-- the words of a plain block in system B
abbrev pub words_in_b : PlainBlock → List Word
words_in_b (Move Rapid x z) = block_words None (Move Rapid x z)
words_in_b (Move Cut x z) = block_words None (Move Cut x z)
words_in_b (Move (Thread lead) x z) = thread_words x z lead
words_in_b (Move (Arc clockwise centre) x z) = block_words None (Move (Arc clockwise centre) x z)
words_in_b (Dwell ms) = block_words None (Dwell ms)

-- the words of a plain block
abbrev pub coded_words : System → PlainBlock → List Word
coded_words A block = block_words None block
coded_words B block = words_in_b block

-- its line, and the lines of plain blocks
abbrev pub coded_line : System → PlainBlock → Block
coded_line system block = plain_line (coded_words system block)

abbrev pub coded_lines : System → List PlainBlock → List Block
coded_lines system blocks = map (coded_line system) blocks
