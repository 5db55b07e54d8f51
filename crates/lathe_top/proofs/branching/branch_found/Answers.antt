-- For the proof of `branch_found` (src/branching.rt): the run that was found is branched; or it is
-- told why not.
use Rattle.std.proofs.Common.{sym, subst}
use Rattle.lathe_calls.specs.Answers.{tells}
use Rattle.lathe_calls.specs.Statuses as exit
use Rattle.lathe_calls.proofs.Ended.{ends_just}
use Rattle.lathe_top.specs.Branched.{IsBranched, branched_text, unbranched_answer}
use Rattle.lathe_top.proofs.BranchesMade.{made_due, unmade_due}
use Rattle.lathe_top.proofs.branching.branch_found.Goals as goal

pub returns-in_Ok-second : goal.returns-in_Ok-second
returns-in_Ok-second g c = λ before recovers.
    let state = g.D.Disk.state in
    let second = g.E.Disk.state in
    let found = c.args.found in
    let made = c.in_Ok-second in
    ends_just _ _
    (subst
    (λ (d : g.row.D.Denot). IsBranched second c.args.meetings (state before) (state d) c.args.second made.second
    (tells exit.done (branched_text c.args.meetings made.records)))
    (sym c.into_disk.ensures)
    (made_due state second c.an_image_of_a_run_is_never_bad.ensures (state before) found.header found.verified found.machine.machine found.entries.items
    found.journal c.requires.run recovers c.args.meetings c.args.second made.second made.records made.ensures))
    c.tell_branched.ensures

pub returns : goal.returns
returns g c = λ before recovers.
    let state = g.D.Disk.state in
    let second = g.E.Disk.state in
    let found = c.args.found in
    let refused = c.in_Err-second in
    ends_just _ _
    (subst
    (λ (d : g.row.D.Denot). IsBranched second c.args.meetings (state before) (state d) c.args.second refused.second (unbranched_answer refused.fault))
    (sym c.into_disk-in_Err-second.ensures)
    (unmade_due state second c.an_image_of_a_run_is_never_bad.ensures (state before) found.header found.verified found.machine.machine found.entries.items
    found.journal c.requires.run recovers c.args.meetings c.args.second refused.second refused.fault refused.ensures))
    c.tell_unbranched.ensures
