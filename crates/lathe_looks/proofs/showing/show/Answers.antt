-- For the proof of `show` (src/showing.rt): the answer is the text of a run that was found, or why
-- there is none.
use Rattle.std.proofs.Common.{refl, sym, subst}
use Rattle.lathe_calls.specs.Answers.{tells}
use Rattle.lathe_looks.specs.Shown.{IsShowing, IsShown, shown, unshown, shown_text}
use Rattle.lathe_calls.proofs.Ended.{ends_put, ends_just}
use Rattle.lathe_looks.proofs.showing.show.Goals as goal

pub returns-in-Ok : goal.returns-in-Ok
returns-in-Ok g c =
    let state = g.D.Disk.state in
    let found = c.in-Ok.found in
    let text_of = shown_text c.args.showing in
    rw c.status_behind-status.ensures
    (ends_put 0 c.put.result
    (subst (λ disk. IsShown (IsShowing c.args.showing) (state c.args.disk) (state disk) (tells 0 (text_of found.verified found.entries.items))) (sym c.into_disk.ensures)
    (shown (record { header = found.header; entries = found.entries.items }) found.verified c.in-Ok.ensures.run.accepted
    c.in-Ok.ensures.run.behind.history c.in-Ok.ensures.recovers refl))
    c.put.ensures)

pub returns-in-Err : goal.returns-in-Err
returns-in-Err g c = ends_just _ _ (unshown c.in-Err.fault c.in-Err.ensures.recovers) c.tell_unfound.ensures
