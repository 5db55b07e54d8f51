-- `read_all_again`: the loop begins and goes on as its invariant says; behind it the block has read
-- what all stamps stand for, or at a stamp that is not due it may not have read with them
-- (src/again.rt).
use Rattle.std.proofs.Common.{arith, drop}
use Rattle.two_path.specs.Turns.{blocks_of}
use Rattle.two_path.proofs.Redone.{begins_at, goes_on_at, stops_at, ends_at, shared_still, on_err}
use Rattle.two_path.proofs.again.read_all_again.Goals as goal

pub loop-stamp-init : goal.loop-stamp-init
loop-stamp-init c =
    begins_at (blocks_of c.args.flow.now) c.args.me.now c.args.joint.now c.since-lowest.result c.args.stamps.now c.since-lowest.ensures c.requires.no_reads

pub read_again-requires : goal.read_again-requires
read_again-requires c = record {
  shared = shared_still (blocks_of c.args.flow.now) c.args.me.now c.loop-stamp.me c.args.joint.now c.loop-stamp.lowest c.args.stamps.now
      (drop c.loop-stamp.stamp-index c.args.stamps.now) c.loop-stamp.invariant c.requires.shared;
}

pub returns-in_err-read_again-clause-refused : goal.returns-in_err-read_again-clause-refused
returns-in_err-read_again-clause-refused c =
    on_err c.from_residual.result
    (stops_at (blocks_of c.args.flow.now) c.args.me.now c.loop-stamp.me c.read_again.new.me c.args.joint.now c.loop-stamp.lowest c.loop-stamp.stamp-index
    c.args.stamps.now c.loop-stamp-test.true c.requires.no_reads c.loop-stamp.invariant c.in_err-read_again.ensures.refused)

pub loop-stamp-preserved : goal.loop-stamp-preserved
loop-stamp-preserved c =
    goes_on_at (blocks_of c.args.flow.now) c.args.me.now c.loop-stamp.me c.read_again.new.me c.args.joint.now c.loop-stamp.lowest c.loop-stamp.stamp-index
    c.args.stamps.now c.loop-stamp-test.true c.loop-stamp.invariant c.in_ok-read_again.ensures.read

pub returns-clause-read : goal.returns-clause-read
returns-clause-read c =
    ends_at (blocks_of c.args.flow.now) c.args.me.now c.loop-stamp.me c.args.joint.now c.loop-stamp.lowest c.loop-stamp.stamp-index
    c.args.stamps.now (omega (arith, c.loop-stamp-test.false)) c.loop-stamp.invariant
