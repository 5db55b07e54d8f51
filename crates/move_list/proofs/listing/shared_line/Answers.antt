-- For the proof of `shared_line` (src/listing.rt): a variable that the settings share is one that
-- may be asked of the machine.
use Rattle.std.proofs.Common.{sym, ◌∙◌}
use Rattle.move_list.proofs.SharedNumbers.{shared_where}
use Rattle.move_list.proofs.listing.shared_line.Goals as goal

pub shared-requires : goal.shared-requires
shared-requires c =
    let fixed = c.args.machine.now.machine.paths.one.path.fixed in
    rw c.from.ensures (shared_where fixed c.args.v (sym (c.is_shared.ensures fixed c.requires.shares) ∙ c.if-is_shared.true))
