-- No chain of nine calls that lead to a wait or an end begins in the main program, so its piece is
-- made; with `Again` behind an M99 it is the list of the path, or the list is too long. For the
-- contract of `main_labels` (src/listing.rt).
use Rattle.std.proofs.Common.{sym, subst, ◌∙◌}
use Rattle.label_list.specs.Lists.{path_labels}
use Rattle.loud_calls.specs.Calls.{IsShort}
use Rattle.label_list.specs.Pieces.{FailsLong, IsListTooLong}
use Rattle.label_list.proofs.Pieces.{path_whole, path_long, by_fault}
use Rattle.label_list.proofs.listing.main_labels.Goals as goal

pub piece_of-requires-clause-short : goal.piece_of-requires-clause-short
piece_of-requires-clause-short c =
    subst (λ p. IsShort c.args.order.now 9 p) (sym c.main.ensures) c.runs_have_one_list.ensures.chains

pub returns-in-Ok-with_start-clause-list : goal.returns-in-Ok-with_start-clause-list
returns-in-Ok-with_start-clause-list c =
    c.in-Ok-with_start.ensures.list
    ∙ sym (path_whole c.args.order.now c.main.result c.in-Ok.piece.labels.items c.in-Ok.piece.ending c.main.ensures
    c.runs_have_one_list.ensures.chains c.in-Ok.ensures.piece)

pub returns-in-Ok-clause-many : goal.returns-in-Ok-clause-many
returns-in-Ok-clause-many c =
    rw (path_whole c.args.order.now c.main.result c.in-Ok.piece.labels.items c.in-Ok.piece.ending c.main.ensures
    c.runs_have_one_list.ensures.chains c.in-Ok.ensures.piece) c.in-Err-with_start.ensures.many

pub returns-clause-many : goal.returns-clause-many
returns-clause-many c =
    by_fault (FailsLong c.args.order.now c.main.result) (IsListTooLong (path_labels c.args.order.now)) c.in-Err.error
    (λ fault fails. path_long c.args.order.now c.main.result fault c.main.ensures c.runs_have_one_list.ensures.chains fails)
    c.in-Err.ensures.many
