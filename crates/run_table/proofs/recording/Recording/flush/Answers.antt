-- For the proof of `flush` (src/recording.rt): all records are on the disk after it, or the disk
-- failed and holds a prefix of them.
use Rattle.std.proofs.Common.{rules, ◌≡◌, [], true, false, sym, subst}
use Rattle.std.specs.Prelude.{IsTrue}
use Rattle.run_table.specs.Recording.{RecordingView, Records}
use Rattle.run_table.proofs.JournalsOn.{done, not_done}
use Rattle.run_table.proofs.recording.Recording.flush.Goals as goal

pub returns-in_err-flush-clause-records : goal.returns-in_err-flush-clause-records
returns-in_err-flush-clause-records g c =
    let d = g.D.Disk.state in
    let i = c.self.inside in
    let live : IsTrue i.journal.file.live = subst (λ (r : RecordingView g.row.D.Denot). IsTrue r.log.file.live) (sym c.self.view_is) c.requires in
    let dead : c.flush.new.self.file.live ≡ false = search rules in
    subst (λ (r : RecordingView g.row.D.Denot). Records d [] r (record { history = i.history.items; room = i.history.room; flushed = i.flushed; log = c.flush.new.self })) c.self.view_is
    (not_done d i.history.items i.history.room i.flushed i.journal c.flush.new.self c.self.invariant.within c.self.invariant.pends live
    c.flush.ensures.any_moment c.flush.ensures.uses c.flush.ensures.cause.later c.flush.ensures.flushed.version c.flush.ensures.idle dead (g.met.D.Disk.coherent c.flush.new.self.file.disk))

pub returns-clause-records : goal.returns-clause-records
returns-clause-records g c =
    let d = g.D.Disk.state in
    let i = c.self.inside in
    let live : IsTrue i.journal.file.live = subst (λ (r : RecordingView g.row.D.Denot). IsTrue r.log.file.live) (sym c.self.view_is) c.requires in
    let alive : c.flush.new.self.file.live ≡ true = search rules in
    subst (λ (r : RecordingView g.row.D.Denot). Records d [] r (record { history = i.history.items; room = i.history.room; flushed = c.len-self-inside.result; log = c.flush.new.self })) c.self.view_is
    (done d i.history.items i.history.room i.flushed i.journal c.flush.new.self c.self.invariant.within c.self.invariant.pends live
    c.flush.ensures.any_moment c.flush.ensures.uses c.flush.ensures.cause.later c.flush.ensures.flushed.version c.flush.ensures.idle c.len-self-inside.result c.len-self-inside.ensures
    alive (c.in_ok-flush.ensures.cause.calm (search rules)) c.in_ok-flush.ensures.flushed.moved
    c.a_held_journal_leaves_its_records.ensures c.in_ok-flush.ensures.acknowledged)
