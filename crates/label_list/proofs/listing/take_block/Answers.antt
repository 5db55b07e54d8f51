-- A block of each control gives what `IsTaken` says: a wait and an end a label, an M99 the
-- program's ending, a call its labels; or there are too many. For the contract of `take_block`
-- (src/listing.rt).
use Rattle.std.proofs.Common.{subst}
use Rattle.loud_calls.specs.Calls.{IsReady}
use Rattle.loud_calls.specs.Known.{piece_known}
use Rattle.label_list.proofs.listing.take_block.Goals as goal

pub take_call-requires-clause-ready : goal.take_call-requires-clause-ready
take_call-requires-clause-ready c =
    subst (λ k. IsReady c.args.order.now (piece_known c.args.known.now) k) c.in-Call.is c.requires.ready
