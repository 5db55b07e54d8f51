-- The places of the signs of a line after its skip sign and comments are below 2 ^ 32 (`read_head`,
-- src/line.rt).
use Rattle.line_text.proofs.Placing.{placed_behind}
use Rattle.line_text.proofs.line.read_head.Goals as goal

pub read_block-requires-clause-placed : goal.read_block-requires-clause-placed
read_block-requires-clause-placed c = rw (c.behind_comments.ensures, c.front-switch.ensures.rest) (placed_behind c.args.head.now c.requires.placed)
