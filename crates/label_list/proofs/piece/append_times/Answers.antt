-- Labels of no length stay none, however often; else each run adds them once more, until all are
-- added or there are too many. For the contract of `append_times` (src/piece.rt).
use Rattle.std.proofs.Common.{◌≡◌, ◌++◌, length, ap, sym, ◌∙◌, append_assoc, rules}
use Rattle.std.proofs.lemmas.List.{append-nil}
use Rattle.label_list.specs.Pieces.{IsTooLong, repeated_labels}
use Rattle.label_list.proofs.Joined.{repeated_labels-more, repeated_labels-none, times_too_long}
use Rattle.label_list.proofs.Pieces.{by_fault}
use Rattle.label_list.proofs.piece.append_times.Goals as goal

pub returns-then-is_empty-clause-added : goal.returns-then-is_empty-clause-added
returns-then-is_empty-clause-added c =
    let none : length c.args.more.now ≡ 0 = search rules in
    record {
      are = sym (ap (λ xs. c.args.labels.now.items ++ xs) (repeated_labels-none c.args.times c.args.more.now none) ∙ append-nil c.args.labels.now.items);
      few = c.requires;
    }

pub returns-in-Err-clause-many : goal.returns-in-Err-clause-many
returns-in-Err-clause-many c =
    let old = c.args.labels.now.items in
    let now = c.loop-time.labels.items in
    let more = c.args.more.now in
    by_fault (IsTooLong now more) (IsTooLong old (repeated_labels c.args.times more)) c.in-Err.error
    (λ fault long. times_too_long old now more c.loop-time._time c.args.times fault c.loop-time-test.true c.loop-time.invariant.are long)
    c.in-Err.ensures.many

pub loop-time-preserved : goal.loop-time-preserved
loop-time-preserved c =
    let old = c.args.labels.now.items in
    let more = c.args.more.now in
    let n = c.loop-time._time in
    record {
      are = c.in-Ok.ensures.added.are ∙ (ap (λ xs. xs ++ more) c.loop-time.invariant.are
          ∙ (append_assoc old (repeated_labels n more) more ∙ ap (λ xs. old ++ xs) (sym (repeated_labels-more n more))));
      few = c.in-Ok.ensures.added.few;
    }
