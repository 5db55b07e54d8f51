-- How a block and the blocks of a part are printed. src/part_text.rt computes it; Replaced puts it
-- in place of lines. Bytes: 10 is the line feed, 32 the space, 70 the letter F, 88 X, 90 Z.
use Rattle.std.specs.Prelude.{ℕ, Bool, List, [], ◌∷◌, ◌++◌, ℤ, Option, Some, None, codes, if◌then◌else◌}
use Rattle.std.specs.List.{flat_map}
use Rattle.nc_number.specs.Printed.{length_text, value_text}
use Rattle.rough_cycle.specs.declared.block.PlainBlock.{PlainBlock}
use Rattle.cycle_form.specs.Parts.{PartView, part_blocks}

-- the code of a block: G01 if it cuts, else G00
abbrev pub code_text : Bool → List ℕ
code_text cuts = if cuts then codes "G01" else codes "G00"

-- a blank and the word of an axis in mm with three decimals, if the block moves it
abbrev pub axis_text : ℕ → Option ℤ → List ℕ
axis_text letter None = []
axis_text letter (Some at) = 32 ∷ letter ∷ length_text at

-- a blank and the word of the feed, if the block cuts
abbrev pub feed_text : Bool → ℤ → List ℕ
feed_text cuts feed = if cuts then 32 ∷ 70 ∷ value_text feed else []

-- a block as a line, with one blank between its words
unfoldable pub block_text : ℤ → PlainBlock → List ℕ
block_text feed block =
    code_text block.cuts ++ (axis_text 88 block.x ++ (axis_text 90 block.z ++ (feed_text block.cuts feed ++ 10 ∷ [])))

-- blocks, a line each; feed is the feed of their cuts in 0.000001
abbrev pub blocks_text : ℤ → List PlainBlock → List ℕ
blocks_text feed blocks = flat_map (block_text feed) blocks

-- the lines of the blocks that a part stands for
abbrev pub part_text : PartView → List ℕ
part_text part = blocks_text part.feed (part_blocks part)
