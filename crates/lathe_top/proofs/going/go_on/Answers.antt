-- For the proof of `go_on` (src/going.rt): a run goes on with both turrets, its records stay legal,
-- and its text is told.
use Rattle.std.proofs.Common.{List, sym, subst}
use Rattle.nc_number.specs.Both.{both_of}
use Rattle.lathe_top.specs.Lathe.{lathe_with}
use Rattle.nc_verify.specs.declared.verified.Verified.{Verified}
use Rattle.run_records.specs.Entries.{Entry}
use Rattle.two_path.specs.Histories.{IsLegal}
use Rattle.nc_restart.specs.Pair.{tapes_in, opening_of}
use Rattle.lathe_calls.specs.Answers.{Ends}
use Rattle.lathe_top.specs.Going.{IsReport}
use Rattle.lathe_top.specs.Texts.{text_by}
use Rattle.lathe_calls.proofs.Ended.{ends_just}
use Rattle.lathe_top.proofs.GoingOn.{not_ended}
use Rattle.lathe_top.proofs.GoingReported.{for_pair, told_same, told_report, pair_is}
use Rattle.lathe_top.proofs.going.go_on.Goals as goal

pub run_with_turrets-table-requires-clause-unended : goal.run_with_turrets-table-requires-clause-unended
run_with_turrets-table-requires-clause-unended g c = λ κs below. not_ended c.args.table.machine c.requires.unended

pub tell_run-status-requires-clause-legal : goal.tell_run-status-requires-clause-legal
tell_run-status-requires-clause-legal g c =
    let new = c.run_with_turrets-table.result.table in
    let parts = c.into_parts-parts.ensures.parts in
    let of_pair : IsLegal (tapes_in c.into_parts-parts.result.verified) (opening_of c.into_parts-parts.result.verified) new.recording.history =
    subst (λ (p : Verified). IsLegal (tapes_in p) (opening_of p) new.recording.history) (sym parts.verified_is)
    c.into_parts-parts.ensures.kept.legal in
    subst (λ (l : List Entry). IsLegal (tapes_in c.into_parts-parts.result.verified) (opening_of c.into_parts-parts.result.verified) l)
    (sym parts.entries_are) of_pair

pub returns : goal.returns
returns g c = λ header journaled.
    let state = g.D.Disk.state in
    let disks = g.met.D.Disk g.world.𝓛 g.world.𝓜 g.world.𝓡 ((λ s x. x), (λ x. x), (λ x. x), λ x. x) in
    let old = c.args.table in
    let run = c.run_with_turrets-table.result in
    let new = run.table in
    let left = c.into_parts-parts in
    let text_of = text_by c.args.asked.telling in
    let before = both_of g.T.Turret.state c.args.turrets in
    let after = both_of g.T.Turret.state run.turrets in
    let missed = run.missed in
    for_pair state
    (λ standing disk. Ends (IsReport c.args.asked.limit text_of standing
    (lathe_with (state old.recording.log.file.disk) before) (record { disk = disk; turrets = after; missed = missed }))
    (g.K.Sink.state c.args.out.now) (g.K.Sink.state c.tell_run-status.new.out) c.tell_run-status.result)
    header old.recording.history new.verified old.verified new.recording.log.file.disk left.result.disk
    (pair_is state disks.coherent c.a_held_journal_is_small.ensures c.args.asked.limit old new c.requires.may c.requires.behind
    c.requires.unended left.ensures.kept left.ensures.few left.ensures.pending left.ensures.live header journaled before after missed run.end c.run_with_turrets-table.ensures.run)
    left.ensures.parts.disk_is
    (ends_just _ _
    (subst (IsReport c.args.asked.limit text_of _ _ _)
    (sym (told_same text_of left.result.verified new.verified left.result.entries.items new.recording.history run.end
    left.ensures.parts.verified_is left.ensures.parts.entries_are))
    (told_report state disks.coherent c.a_held_journal_is_small.ensures c.args.asked.limit old new c.requires.may
    c.requires.behind c.requires.unended left.ensures.kept left.ensures.few left.ensures.pending left.ensures.live header journaled before after missed text_of run.end
    c.run_with_turrets-table.ensures.run))
    c.tell_run-status.ensures)
