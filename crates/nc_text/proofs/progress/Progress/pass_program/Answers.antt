-- A program more keeps the shape of what was read of a tape (`pass_program`, src/progress.rt).
use Rattle.nc_text.proofs.Shaping.{program_begun}
use Rattle.nc_text.proofs.progress.Progress.pass_program.Goals as goal

pub invariant_of-self-2-clause-shaped : goal.invariant_of-self-2-clause-shaped
invariant_of-self-2-clause-shaped c =
    let old = c.args.self.now in
    program_begun old.lines old.blocks c.args.number old.done.items c.begin_program.new.done.items old.current c.begin_program.new.current old.shaped c.requires.range c.in_ok-begin_program.ensures.done c.in_ok-begin_program.ensures.current
