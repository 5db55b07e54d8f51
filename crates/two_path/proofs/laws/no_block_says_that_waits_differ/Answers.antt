-- No block of a tape raises the alarm of two paths that wait at different codes (src/laws.rt).
use Rattle.two_path.proofs.NoCrossingBlocks.{raises_none}
use Rattle.two_path.proofs.laws.no_block_says_that_waits_differ.Goals as goal

pub returns : goal.returns
returns c = raises_none
