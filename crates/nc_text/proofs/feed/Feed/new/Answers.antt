-- A new reader of a tape has read no bytes (`new`, src/feed.rt).
use Rattle.std.proofs.Common.{ap, sym}
use Rattle.nc_text.specs.Lines.{lines_of}
use Rattle.nc_text.specs.Tape.{tape_of, in_leader}
use Rattle.nc_text.specs.View.{before_of}
use Rattle.nc_text.proofs.Standing.{nothing_given}
use Rattle.nc_text.proofs.feed.Feed.new.Goals as goal

pub returns : goal.returns
unfolding tape_of
returns c =
    let line = c.empty.result in
    nothing_given c.args.skips line.stage line.kept.items line.len (before_of c.new-2.result) c.empty.ensures.stage c.empty.ensures.kept c.empty.ensures.len (λ more. ap (in_leader c.args.skips (lines_of more)) (sym c.new-2.ensures))
