-- Plain blocks as the lines that stand for a block. src/lines.rt makes them.
use Rattle.std.specs.Prelude.{List, map, Option, ℤ}
use Rattle.nc_text.specs.declared.tape.Block.{Block}
use Rattle.plain_block.specs.declared.block.PlainBlock.{PlainBlock}
use Rattle.plain_form.specs.Made.{block_words, plain_line}

-- the line of a plain block, with this feed if it cuts
abbrev pub line_of : Option ℤ → PlainBlock → Block
line_of feed block = plain_line (block_words feed block)

-- the lines of plain blocks
abbrev pub lines_of : Option ℤ → List PlainBlock → List Block
lines_of feed blocks = map (line_of feed) blocks
