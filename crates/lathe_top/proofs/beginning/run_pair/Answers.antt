-- For the proof of `run_pair` (src/beginning.rt): a journal is begun and the run goes on; or it is
-- told why no journal was begun.
use Rattle.std.proofs.Common.{refl}
use Rattle.lathe_calls.specs.Answers.{Ends}
use Rattle.nc_number.specs.Both.{both_of}
use Rattle.lathe_top.specs.Going.{IsReport}
use Rattle.lathe_top.specs.Held.{lathe_left}
use Rattle.lathe_top.specs.Lathe.{LatheState, lathe_with}
use Rattle.lathe_top.specs.Ran.{not_begun}
use Rattle.lathe_top.specs.Texts.{text_by}
use Rattle.lathe_calls.proofs.Ended.{ends_by, ends_just}
use Rattle.lathe_top.proofs.RunsBegun.{begun_behind, begun_unended, of_begun, begun_run, refused_beginning}
use Rattle.lathe_top.proofs.beginning.run_pair.Goals as goal

pub go_on-requires-clause-behind : goal.go_on-requires-clause-behind
go_on-requires-clause-behind g c = λ κs below. begun_behind c.args.pair c.in-Ok.table c.in-Ok.ensures.empty

pub go_on-requires-clause-unended : goal.go_on-requires-clause-unended
go_on-requires-clause-unended g c = λ κs below. begun_unended c.args.pair c.in-Ok.table c.in-Ok.ensures.empty

pub returns-in-Ok : goal.returns-in-Ok
returns-in-Ok g c =
    let state = g.D.Disk.state in
    let turret = g.T.Turret.state in
    let table = c.in-Ok.table in
    let text_of = text_by c.args.asked.telling in
    let before = both_of turret c.args.lathe.turrets in
    let after : LatheState = lathe_left state turret c.go_on.result in
    ends_by _
    (begun_run state c.no_history_is_stuck.ensures c.args.asked.limit c.args.header c.args.pair (state c.args.lathe.disk)
    table.recording.log.file.disk before after table c.in-Ok.ensures.begun c.requires.accepted c.requires.version text_of)
    (of_begun
    (λ run. Ends (IsReport c.args.asked.limit text_of run (lathe_with (state table.recording.log.file.disk) before) after)
    (g.K.Sink.state c.args.out.now) (g.K.Sink.state c.go_on.new.out) c.go_on.result.status)
    c.args.header c.args.pair table c.in-Ok.ensures.empty (c.go_on.ensures c.args.header c.in-Ok.ensures.journal))

pub returns : goal.returns
returns g c =
    rw c.at_rest.ensures
    (ends_just _ _
    (not_begun c.in-Err.fault (refused_beginning c.args.header c.args.pair c.in-Err.fault _ _ c.requires.accepted c.requires.version c.in-Err.ensures.begun) (refl, refl))
    c.tell_unbegun.ensures)
