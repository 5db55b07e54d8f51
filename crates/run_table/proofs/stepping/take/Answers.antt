-- For the proof of `take` (src/stepping.rt): the record of a turn joins the history, and is on the
-- disk before a turn that shows something is answered.
use Rattle.std.proofs.Common.{◌≡◌, true, List, length, sym, ◌∙◌}
use Rattle.std.specs.Prelude.{nat_lt}
use Rattle.run_records.specs.Entries.{Entry}
use Rattle.two_path.specs.declared.turn.Turn.{Turn}
use Rattle.two_path.specs.Histories.{list_of}
use Rattle.two_path.specs.Made.{turn_with}
use Rattle.run_table.specs.Apart.{step_with}
use Rattle.run_table.specs.declared.answer.TableStep.TheVariants.{Turned as Shown}
use Rattle.run_table.specs.Stepping.{is_due}
use Rattle.run_table.proofs.StepsTaken.{noted_only, noted_answer, due_is, due_shown, some_pends, many_pend}
use Rattle.run_table.proofs.stepping.take.Goals.{then-is_shown-via-then-is_shown, then-is_shown-via-else-is_shown+then-pending-eq-MOST_PENDING}
use Rattle.run_table.proofs.stepping.take.Goals as goal

pub returns-then-is_shown-clause-answer : goal.returns-then-is_shown-clause-answer
returns-then-is_shown-clause-answer g c =
    let d = g.D.Disk.state in
    let made : List Entry = list_of c.args.turned.entry in
    let the_turn : Turn = turn_with c.args.turned.answer c.args.moves.now in
    let both : (is_due c.args.recording.now made the_turn ≡ true) × (nat_lt c.note.new.recording.flushed (length c.note.new.recording.history) ≡ true) =
    elim c.then-is_shown.branch [
      | then-is_shown-via-then-is_shown w ↦ (
        due_shown made the_turn c.args.recording.now (sym c.is_shown.ensures ∙ w.if-is_shown.true),
        some_pends d made c.args.recording.now c.note.new.recording c.note.ensures.noted (c.requires.made (sym c.is_shown.ensures ∙ w.if-is_shown.true)),
      )
      | then-is_shown-via-else-is_shown+then-pending-eq-MOST_PENDING w ↦ (
        due_is d made the_turn c.args.recording.now c.note.new.recording w.pending.result c.note.ensures.noted w.if-pending-eq-MOST_PENDING.true w.pending.ensures.count,
        many_pend c.note.new.recording w.pending.result w.pending.ensures.count w.if-pending-eq-MOST_PENDING.true,
      )
    ] in
    noted_answer d made (is_due c.args.recording.now made the_turn) (Shown the_turn) (step_with c.flush_before.result c.flush_before.new.moves) c.args.recording.now c.note.new.recording c.flush_before.new.recording
    c.note.ensures.noted both.0 both.1 c.flush_before.ensures.answer

pub returns-clause-records : goal.returns-clause-records
returns-clause-records g c =
    noted_only g.D.Disk.state (list_of c.args.turned.entry) c.args.recording.now c.note.new.recording g.met.D.Disk.coherent c.note.ensures.noted
