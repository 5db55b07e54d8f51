-- A call of a loud program (one that has a wait or an end, or calls one that has) adds the piece
-- that is kept of it, as often as it runs; every other call adds nothing, and neither does one that
-- runs it no time. For the contract of `take_call` (src/listing.rt).
use Rattle.std.proofs.Common.{◌≡◌, ◌<◌, true, Some, None, sym, ◌∙◌, rules, arith}
use Rattle.block_order.specs.declared.control.Control.TheVariants.{Call}
use Rattle.block_order.specs.Loud.{loud}
use Rattle.loud_calls.specs.Known.{piece_known}
use Rattle.loud_calls.proofs.Calls.{call_of}
use Rattle.label_list.specs.Pieces.{IsTooLong, FailsAt, copies}
use Rattle.label_list.proofs.Pieces.{by_fault}
use Rattle.label_list.proofs.Taken.{taken_call, fails_call}
use Rattle.label_list.proofs.listing.take_call.Goals as goal

pub returns-in-Ok-clause-taken : goal.returns-in-Ok-clause-taken
returns-in-Ok-clause-taken c =
    let noisy : loud c.args.order.now c.args.program ≡ true = search rules in
    let piece = c.in-Some.piece.now in
    rw c.in-Ok.ensures.stops (taken_call c.args.order.now c.args.line c.args.program c.args.repeats c.args.labels.now.items
    c.append_to.new.labels.items piece.labels.items piece.ending noisy (omega arith)
    (c.requires.known c.args.program piece (sym c.in-Some.ensures)) c.in-Ok.ensures.added)

pub returns-in-Err-clause-many : goal.returns-in-Err-clause-many
returns-in-Err-clause-many c =
    let noisy : loud c.args.order.now c.args.program ≡ true = search rules in
    let some : 0 < c.args.repeats = omega arith in
    let piece = c.in-Some.piece.now in
    let old = c.args.labels.now.items in
    by_fault (IsTooLong old (copies piece.ending c.args.repeats piece.labels.items))
    (FailsAt c.args.order.now c.args.line (Call c.args.program c.args.repeats) old) c.in-Err.error
    (λ fault long. fails_call c.args.order.now c.args.line c.args.program c.args.repeats old piece.labels.items piece.ending fault
    noisy some (c.requires.known c.args.program piece (sym c.in-Some.ensures)) long) c.in-Err.ensures.many

pub returns-in-None-clause-taken : goal.returns-in-None-clause-taken
returns-in-None-clause-taken c =
    let noisy : loud c.args.order.now c.args.program ≡ true = search rules in
    let ready = c.requires.ready c.args.program (call_of c.args.order.now c.args.program c.args.repeats noisy (omega arith)) in
    let none : piece_known c.args.known.now c.args.program ≡ None = sym c.in-None.ensures in
    let some : piece_known c.args.known.now c.args.program ≡ Some ready.0 = ready.1 in
    let apart : Some ready.0 ≡ None = sym some ∙ none in
    absurd cc
