-- A record of a path that is still is refused, and so is one whose stamps its block may not have
-- read; else the block has read what the record's stamps stand for (src/again.rt).
use Rattle.std.proofs.Common.{rules, ◌≡◌, ◌||◌, true, is_some, ap, subst, ◌∙◌}
use Rattle.run_records.specs.Entries.{Entry}
use Rattle.two_path.specs.Turns.{blocks_of}
use Rattle.two_path.specs.Histories.{is_idle}
use Rattle.two_path.specs.Again.{HasRead, MayNotRead}
use Rattle.two_path.proofs.Redone.{unfit_reads, unfit_still, on_err}
use Rattle.two_path.proofs.again.read_due.Goals as goal

pub returns-then-is_still-clause-refused : goal.returns-then-is_still-clause-refused
returns-then-is_still-clause-refused c = λ other.
    let still : (is_some c.args.joint.now.alarm || is_idle c.args.me.now) ≡ true = search rules in
    unfit_still (blocks_of c.args.flow.now) c.args.entry.now c.args.me.now other c.args.joint.now still c.requires.no_reads

pub returns-in_err-read_all_again-clause-refused : goal.returns-in_err-read_all_again-clause-refused
returns-in_err-read_all_again-clause-refused c =
    on_err c.from_residual.result
    (λ other. unfit_reads (blocks_of c.args.flow.now) c.args.entry.now c.args.me.now c.read_all_again.new.me other c.args.joint.now
    (subst (λ stamps. MayNotRead (blocks_of c.args.flow.now) c.args.joint.now stamps c.args.me.now c.read_all_again.new.me)
    (c.as_slice.ensures.stamps ∙ ap (λ (e : Entry). e.stamps) c.entry.view_is) c.in_err-read_all_again.ensures.refused))

pub returns-clause-read : goal.returns-clause-read
returns-clause-read c =
    subst (λ stamps. HasRead (blocks_of c.args.flow.now) c.args.joint.now stamps c.args.me.now c.read_all_again.new.me)
    (c.as_slice.ensures.stamps ∙ ap (λ (e : Entry). e.stamps) c.entry.view_is) c.in_ok-read_all_again.ensures.read
