-- At every moment the disk holds the run that was found, or it and all edits; after an Ok it holds
-- the latter (`write_edits`, src/making.rt).
use Rattle.std.proofs.Common.{inl}
use Rattle.disk_model.proofs.Runs.{widened}
use Rattle.run_journal.specs.Stands.{Stands, StandsEither}
use Rattle.run_edits.specs.Made.{records_of}
use Rattle.run_edits.proofs.Written.{written_moment, written_whole}
use Rattle.run_edits.proofs.making.write_edits.Goals as goal

pub returns-in_err-raise_first-clause-any_moment : goal.returns-in_err-raise_first-clause-any_moment
returns-in_err-raise_first-clause-any_moment g c = λ header entries holds.
    widened (Stands header entries) (StandsEither header entries (records_of c.args.edits.now)) _ _ (c.in_err-raise_first.ensures.any_moment header entries holds)
    (λ x here. inl here)

pub returns-in_err-flush-clause-any_moment : goal.returns-in_err-flush-clause-any_moment
returns-in_err-flush-clause-any_moment g c = λ header entries holds.
    written_moment g.D.Disk.state c.args.journal.now c.raise_first.new.journal c.note_edits.new.journal c.flush.new.self (records_of c.args.edits.now)
    c.note_edits.ensures.file c.note_edits.ensures.version c.note_edits.ensures.pends c.in_ok-raise_first.ensures.raised header entries holds
    (c.in_ok-raise_first.ensures.any_moment header entries holds) c.in_err-flush.ensures.any_moment

pub returns-clause-any_moment : goal.returns-clause-any_moment
returns-clause-any_moment g c = λ header entries holds.
    written_moment g.D.Disk.state c.args.journal.now c.raise_first.new.journal c.note_edits.new.journal c.flush.new.self (records_of c.args.edits.now)
    c.note_edits.ensures.file c.note_edits.ensures.version c.note_edits.ensures.pends c.in_ok-raise_first.ensures.raised header entries holds
    (c.in_ok-raise_first.ensures.any_moment header entries holds) c.in_ok-flush.ensures.any_moment

pub returns-clause-whole : goal.returns-clause-whole
returns-clause-whole g c =
    written_whole g.D.Disk.state c.args.journal.now c.raise_first.new.journal c.note_edits.new.journal c.flush.new.self (records_of c.args.edits.now)
    c.note_edits.ensures.file c.note_edits.ensures.version c.note_edits.ensures.pends c.in_ok-raise_first.ensures.raised
    c.a_held_journal_leaves_its_records.ensures c.in_ok-flush.ensures.acknowledged
