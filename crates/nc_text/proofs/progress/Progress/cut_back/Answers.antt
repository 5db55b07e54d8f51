-- Going back to a mark of a tape's reading gives what was read there (`cut_back`,
-- src/going_back.rt).
use Rattle.nc_text.specs.View.{before_of}
use Rattle.nc_text.proofs.Growing.{cut_to_mark}
use Rattle.nc_text.proofs.progress.Progress.cut_back.Goals as goal

pub returns : goal.returns
returns c = λ start mark follows. cut_to_mark start (before_of c.args.self.now) c.args.mark.now c.reopen.new.done.items c.reopen.new.current c.cut_program.new.program mark follows c.reopen.ensures c.cut_program.ensures
