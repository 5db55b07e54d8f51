-- If there are edits, all of them were written, or the disk failed and the run that was found is
-- left with them or without (`make_all`, src/making.rt).
use Rattle.std.proofs.Common.{rules, ◌≡◌, ◌==◌, false, length, refl}
use Rattle.run_edits.specs.Made.{records_of}
use Rattle.run_edits.proofs.Written.{none_made, when_failed, when_made}
use Rattle.run_edits.proofs.making.make_all.Goals as goal

pub returns-in-Ok : goal.returns-in-Ok
returns-in-Ok g c = λ header found holds.
    let edits = c.args.edits.now in
    let some : (length edits == 0) ≡ false = search rules in
    when_made g.D.Disk.state c.args.journal.now c.write_edits.new.journal header found (records_of edits) (none_made edits some)
    holds c.in-Ok.ensures.any_moment c.in-Ok.ensures.uses c.in-Ok.ensures.whole c.in-Ok.ensures.cause.later
    (c.in-Ok.ensures.cause.calm refl)

pub returns-in-Err : goal.returns-in-Err
returns-in-Err g c = λ header found holds.
    let edits = c.args.edits.now in
    let some : (length edits == 0) ≡ false = search rules in
    when_failed g.D.Disk.state c.args.journal.now c.write_edits.new.journal header found (records_of edits) (none_made edits some)
    holds c.in-Err.ensures.any_moment c.in-Err.ensures.uses c.in-Err.fault c.in-Err.ensures.cause.later
    (c.in-Err.ensures.cause.failed refl)
