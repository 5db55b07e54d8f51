-- A body is refused as a batch: empty, counted wrong, a record missing, or bytes left
-- (`read_batch`, src/reading.rt).
use Rattle.std.proofs.Common.{◌≡◌, ◌⊎◌, inl, inr, ⊎_elim, ◌+◌, ◌-◌, ◌<◌, length, drop, take, get_or, sym, subst, arith}
use Rattle.run_journal.specs.Reading.{RefusesBatch}
use Rattle.run_journal.proofs.Records.{count_first, bad_empty, bad_count, bad_unread, bad_late}
use Rattle.run_journal.proofs.reading.read_batch.Goals as goal

pub returns-in_default-clause-refused : goal.returns-in_default-clause-refused
returns-in_default-clause-refused c =
    subst (RefusesBatch c.args.version c.args.at c.args.body.now) (sym c.wrong_count.ensures) (0, omega arith, bad_empty c.args.version c.args.body.now c.in_default.len_below)

pub returns-then-count-eq0-clause-refused : goal.returns-then-count-eq0-clause-refused
returns-then-count-eq0-clause-refused c =
    let body = c.args.body.now in
    let wrong : (get_or body 0 0 ≡ 0) ⊎ (64 < get_or body 0 0) = ⊎_elim (λ zero_count. inl zero_count) (λ more. inr more.1) c.then-count-eq0.either in
    subst (RefusesBatch c.args.version c.args.at body) (sym c.wrong_count-then-count-eq0.ensures) (0, omega arith, bad_count c.args.version (get_or body 0 0) _ body (count_first body c.in-len1-up.len_at_least) wrong)

pub returns-in-Err-clause-refused : goal.returns-in-Err-clause-refused
returns-in-Err-clause-refused c =
    let body = c.args.body.now in
    let count = get_or body 0 0 in
    let records = take (length body - 1) (drop 1 body) in (
      1 + c.in-Err.field-0.place,
      omega arith,
      bad_unread c.args.version count c.args.at records body (count_first body c.in-len1-up.len_at_least) (omega (arith, c.if-count-eq0.false)) (omega (arith, c.if-count-gt-MOST_PENDING.false)) c.in-Err.field-0.place c.in-Err.field-0.cause c.in-Err.ensures.unread,
    )

pub returns-then-size-records-clause-refused : goal.returns-then-size-records-clause-refused
returns-then-size-records-clause-refused c =
    let body = c.args.body.now in
    let count = get_or body 0 0 in
    let records = take (length body - 1) (drop 1 body) in
    let less : c.in-Ok.size < length records = omega (arith, c.if-size-records.true) in (
      0,
      omega arith,
      bad_late c.args.version count c.args.at records body (count_first body c.in-len1-up.len_at_least) (omega (arith, c.if-count-eq0.false)) (omega (arith, c.if-count-gt-MOST_PENDING.false)) c.in-Ok.size _ _ _ _ c.in-Ok.ensures.read less,
    )
