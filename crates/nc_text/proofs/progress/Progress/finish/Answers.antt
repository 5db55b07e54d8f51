-- The programs that were read have the shape of a tape (`finish`, src/progress.rt).
use Rattle.nc_text.proofs.Shaping.{tape_shaped}
use Rattle.nc_text.proofs.progress.Progress.finish.Goals as goal

pub of-requires : goal.of-requires
of-requires c =
    let old = c.args.self in
    tape_shaped old.lines old.blocks old.done.items c.push.new.self.items c.in-Some.program old.current old.shaped c.in-Some.is c.in_ok-push-in-Some.ensures.items old.few_blocks
