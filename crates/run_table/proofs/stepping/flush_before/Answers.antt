-- For the proof of `flush_before` (src/stepping.rt): all records are on the disk before the answer,
-- or the answer is a fault of the disk.
use Rattle.std.proofs.Common.{rules, ◌≡◌, true, false}
use Rattle.run_table.specs.Apart.{step_with}
use Rattle.run_table.proofs.StepsTaken.{answer_flushed, answer_failed}
use Rattle.run_table.proofs.stepping.flush_before.Goals as goal

pub returns-in-Ok-clause-answer : goal.returns-in-Ok-clause-answer
returns-in-Ok-clause-answer g c =
    let live : c.flush.new.self.log.file.live ≡ true = search rules in
    answer_flushed g.D.Disk.state (step_with c.args.answer c.args.moves.now) c.args.recording.now c.flush.new.self c.flush.ensures.flushed.within c.flush.ensures.records.follows.history
    c.in-Ok.ensures.flushed.flushed live c.flush.ensures.flushed.idle

pub returns-in-Err-clause-answer : goal.returns-in-Err-clause-answer
returns-in-Err-clause-answer g c =
    let dead : c.flush.new.self.log.file.live ≡ false = search rules in
    answer_failed g.D.Disk.state (step_with c.args.answer c.args.moves.now) c.args.recording.now c.flush.new.self c.flush.ensures.flushed.within
    c.in-Err.ensures.flushed.stays c.requires.live dead c.flush.ensures.flushed.idle (search rules)
