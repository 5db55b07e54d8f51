-- A call of a loud program (one that has a wait or an end, or calls one that has) adds the piece
-- that is kept of it, as often as it runs; every other call adds nothing, and neither does one that
-- runs it no time. For the contract of `take_call` (src/listing.rt).
use Rattle.std.proofs.Common.{◌≡◌, true, Some, None, sym, ◌∙◌, rules, arith}
use Rattle.block_order.specs.Loud.{loud}
use Rattle.loud_calls.specs.Known.{piece_known}
use Rattle.loud_calls.proofs.Calls.{call_of}
use Rattle.part_lines.specs.Pieces.{quiet_known}
use Rattle.part_lines.proofs.Shown.{loud_taken}
use Rattle.part_lines.proofs.listing.take_call.Goals as goal

pub returns-in-Ok : goal.returns-in-Ok
returns-in-Ok g c =
    let noisy : loud c.args.order.now c.args.program ≡ true = search rules in
    let piece = c.in-Some.piece.now in
    rw c.in-Ok.ensures.stops (loud_taken c.args.order.now (g.L.BlockLines.line c.args.lines.now) (quiet_known c.args.quiet.now)
    c.args.program c.args.repeats c.args.own.now c.add_to.new.lines piece.lines piece.ending noisy (omega arith)
    (c.requires.known c.args.program piece (sym c.in-Some.ensures)) c.in-Ok.ensures.added)

pub returns-in-None : goal.returns-in-None
returns-in-None g c =
    let noisy : loud c.args.order.now c.args.program ≡ true = search rules in
    let ready = c.requires.ready c.args.program (call_of c.args.order.now c.args.program c.args.repeats noisy (omega arith)) in
    let none : piece_known c.args.known.now c.args.program ≡ None = sym c.in-None.ensures in
    let some : piece_known c.args.known.now c.args.program ≡ Some ready.0 = ready.1 in
    let apart : Some ready.0 ≡ None = sym some ∙ none in
    absurd cc
