-- The blocks of a tape that was read stand on rising lines. For the law `lines_of_blocks_rise`
-- (src/lines.rt).
use Rattle.flow_laws.proofs.RisingBlocks.{blocks_rise}
use Rattle.flow_laws.proofs.lines.lines_of_blocks_rise.Goals as goal

pub returns : goal.returns
returns c = blocks_rise
