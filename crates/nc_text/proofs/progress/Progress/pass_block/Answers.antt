-- A block more keeps the shape of what was read of a tape (`pass_block`, src/progress.rt).
use Rattle.std.proofs.Common.{refl}
use Rattle.nc_text.proofs.Shaping.{block_added}
use Rattle.nc_text.proofs.progress.Progress.pass_block.Goals as goal

pub invariant_of-self-2-clause-shaped : goal.invariant_of-self-2-clause-shaped
invariant_of-self-2-clause-shaped c =
    let old = c.args.self.now in
    block_added old.lines old.blocks old.done.items old.done.items old.current c.add_block.new.current c.args.block old.shaped c.requires.shape refl c.in_ok-add_block.ensures.ok
