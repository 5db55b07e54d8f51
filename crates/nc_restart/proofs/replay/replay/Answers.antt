-- Of records that are done again none is done at first, the next one may always be done, and the
-- first out of place is told by its index (`replay`, src/replay.rt).
use Rattle.std.proofs.Common.{arith}
use Rattle.nc_restart.proofs.Replays.{none_done, room_there, few_done, bad_at}
use Rattle.nc_restart.proofs.replay.replay.Goals as goal

pub redo-requires-clause-room : goal.redo-requires-clause-room
redo-requires-clause-room c =
    room_there c.args.pair.now c.args.entries.now.items c.loop-index.index c.loop-index.machine c.loop-index.invariant (omega (arith, c.loop-index-test.true))

pub redo-requires-clause-few : goal.redo-requires-clause-few
redo-requires-clause-few c = few_done c.args.pair.now c.args.entries.now.items c.loop-index.index c.loop-index.machine c.loop-index.invariant

pub redo-requires-clause-no_reads : goal.redo-requires-clause-no_reads
redo-requires-clause-no_reads c = c.loop-index.invariant.behind.bare

pub redo-requires-clause-waits : goal.redo-requires-clause-waits
redo-requires-clause-waits c = c.loop-index.invariant.behind.waits

pub loop-index-init : goal.loop-index-init
loop-index-init c = none_done c.args.pair.now c.args.entries.now.items c.args.machine.now c.requires.opening c.requires.room

pub returns-in-Err-clause-bad : goal.returns-in-Err-clause-bad
returns-in-Err-clause-bad c =
    bad_at c.args.pair.now c.args.entries.now.items c.loop-index.index c.get-entry.result c.loop-index.machine c.loop-index.invariant
    (omega (arith, c.loop-index-test.true)) c.get-entry.ensures c.in-Err.cause c.in-Err.ensures.bad
