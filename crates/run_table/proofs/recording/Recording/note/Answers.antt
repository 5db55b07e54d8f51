-- For the proof of `note` (src/recording.rt): one record more pends, and the disk isn't touched.
use Rattle.std.proofs.Common.{[], ◌∷◌, refl, subst}
use Rattle.run_table.specs.Recording.{RecordingView, IsNoted}
use Rattle.run_table.proofs.JournalsOn.{noted}
use Rattle.run_table.proofs.recording.Recording.note.Goals as goal

pub returns : goal.returns
returns g c =
    let d = g.D.Disk.state in
    let i = c.self.inside in
    subst (λ (r : RecordingView g.row.D.Denot). IsNoted d (c.args.entry ∷ []) r (record { history = c.push.new.self.items; room = c.push.new.self.room; flushed = i.flushed; log = c.add.new.self })) c.self.view_is
    (record {
      within = λ some. c.self.invariant.within;
      history = c.push.ensures.items;
      file = c.add.ensures.file;
      flushed = refl;
      version = c.add.ensures.version;
      room = c.push.ensures.room;
      journal = λ header j.
          noted d header i.history.items c.push.new.self.items i.flushed i.history.room c.push.new.self.room c.args.entry i.journal c.add.new.self
          c.self.invariant.within c.push.ensures.items c.add.ensures.file c.add.ensures.version j;
    })
