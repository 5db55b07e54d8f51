-- `judge_at`: the refusal of a tape, or of both orders as a pair, is the pair's at this position; if
-- there is none, the labels and the trust are those that are told of the pair there
-- (src/verifying.rt).
use Rattle.std.proofs.Common.{◌≡◌, ℕ, List, Ok, ap}
use Rattle.cell_settings.specs.Cell.{Cell, settings_of}
use Rattle.cell_settings.specs.View.{view}
use Rattle.open_order.specs.Basis.{trust_view}
use Rattle.wait_verify.specs.Asked.{Asked, at, question_of}
use Rattle.wait_verify.specs.Switches.{cell_at, cell_or_line, cell_of}
use Rattle.wait_verify.specs.Verdict.{Judged}
use Rattle.wait_verify.proofs.Judging.{IsPremises, left_refused, right_refused, orders_are, pair_refused, pair_told}
use Rattle.wait_verify.proofs.verifying.judge_at.Goals as goal

pub returns-in-Err-clause-refused : goal.returns-in-Err-clause-refused
returns-in-Err-clause-refused c = λ text read.
    left_refused (at c.args.position (question_of c.args.left.now c.args.right.now text c.args.outside))
    (cell_at c.args.position (view c.args.settings.now)) c.premises_of-premises.result c.skips_at-first.result
    c.in-Err.error (ap (cell_or_line c.args.position) read)
    (record { dialect = c.premises_of-premises.ensures.dialect; outside = c.premises_of-premises.ensures.outside })
    c.skips_at-first.ensures c.in-Err.ensures.refused

pub returns-in-Err-ordered_tape-clause-refused : goal.returns-in-Err-ordered_tape-clause-refused
returns-in-Err-ordered_tape-clause-refused c = λ text read.
    right_refused (at c.args.position (question_of c.args.left.now c.args.right.now text c.args.outside))
    (cell_at c.args.position (view c.args.settings.now)) c.premises_of-premises.result c.skips_at-first.result
    c.skips_at-second.result c.in-Ok.tape.tape c.in-Ok.tape.order c.in-Err-ordered_tape.error
    (ap (cell_or_line c.args.position) read)
    (record { dialect = c.premises_of-premises.ensures.dialect; outside = c.premises_of-premises.ensures.outside })
    c.skips_at-first.ensures c.in-Ok.ensures.ordered c.skips_at-second.ensures c.in-Err-ordered_tape.ensures.refused

pub returns-clause-refused : goal.returns-clause-refused
returns-clause-refused c = λ text read.
    let all : Asked = at c.args.position (question_of c.args.left.now c.args.right.now text c.args.outside) in
    let judged : Judged = record {
      cell = cell_at c.args.position (view c.args.settings.now);
      left_tape = c.in-Ok.tape.tape;
      right_tape = c.in-Ok-ordered_tape.tape.tape;
      left = c.in-Ok.tape.order;
      right = c.in-Ok-ordered_tape.tape.order;
    } in
    pair_refused all judged c.in-Err-tell.error
    (orders_are all judged c.premises_of-premises.result c.skips_at-first.result c.skips_at-second.result
    (ap (cell_or_line c.args.position) read)
    (record { dialect = c.premises_of-premises.ensures.dialect; outside = c.premises_of-premises.ensures.outside })
    c.skips_at-first.ensures c.skips_at-second.ensures c.in-Ok.ensures.ordered c.in-Ok-ordered_tape.ensures.ordered)
    c.in-Err-tell.ensures.refused

pub returns-in-Ok-tell-clause-told : goal.returns-in-Ok-tell-clause-told
returns-in-Ok-tell-clause-told c = λ text read.
    let all : Asked = at c.args.position (question_of c.args.left.now c.args.right.now text c.args.outside) in
    let judged : Judged = record {
      cell = cell_at c.args.position (view c.args.settings.now);
      left_tape = c.in-Ok.tape.tape;
      right_tape = c.in-Ok-ordered_tape.tape.tape;
      left = c.in-Ok.tape.order;
      right = c.in-Ok-ordered_tape.tape.order;
    } in
    let premises : IsPremises all judged.cell c.premises_of-premises.result =
    record { dialect = c.premises_of-premises.ensures.dialect; outside = c.premises_of-premises.ensures.outside } in (
      judged,
      pair_told all judged c.premises_of-premises.result c.in-Ok-tell.pair.labels.one c.in-Ok-tell.pair.labels.two (trust_view c.in-Ok-tell.pair.trust)
          (orders_are all judged c.premises_of-premises.result c.skips_at-first.result c.skips_at-second.result
          (ap (cell_or_line c.args.position) read)
          premises c.skips_at-first.ensures c.skips_at-second.ensures c.in-Ok.ensures.ordered
          c.in-Ok-ordered_tape.ensures.ordered)
          premises c.in-Ok-tell.ensures.accepted c.in-Ok-tell.ensures.left c.in-Ok-tell.ensures.right c.in-Ok-tell.ensures.trust,
    )
