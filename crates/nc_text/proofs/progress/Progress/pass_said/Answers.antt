-- What was read of a tape before a line that says a block still stands after it (`pass_said`,
-- src/progress.rt).
use Rattle.line_text.specs.declared.said.Said.TheVariants as said
use Rattle.nc_text.specs.View.{before_of}
use Rattle.nc_text.proofs.Growing.{grows_said}
use Rattle.nc_text.proofs.progress.Progress.pass_said.Goals as goal

pub returns-in_ok-pass_block-in-Block-clause-grows : goal.returns-in_ok-pass_block-in-Block-clause-grows
returns-in_ok-pass_block-in-Block-clause-grows c = grows_said (before_of c.args.self.now) (before_of c.pass_block.new.self) (said.Block c.in-Block.block) c.args.len c.args.ended c.in_ok-pass_block-in-Block.ensures.ok
