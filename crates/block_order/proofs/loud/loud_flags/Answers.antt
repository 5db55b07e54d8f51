-- Flags that one more look leaves as they were, or that came of as many looks as there are
-- programs, are those of the loud programs. A loud program has a wait or an end, or calls one that
-- has. For the contract of `loud_flags` (src/loud.rt).
use Rattle.std.proofs.Common.{◌≡◌, length, map, sym, subst, ◌∙◌, arith}
use Rattle.block_order.specs.Loud.{has_loud_block}
use Rattle.block_order.specs.Heard.{flag_known}
use Rattle.block_order.proofs.HeardFirst.{begins, looked_again, looked_enough, looked_long}
use Rattle.block_order.proofs.loud.loud_flags.Goals as goal

pub loop-round-init : goal.loop-round-init
loop-round-init c = begins c.args.programs.now c.in_ok-flags.flags.items c.in_ok-flags.ensures

pub loop-round-preserved : goal.loop-round-preserved
loop-round-preserved c =
    looked_again c.args.programs.now c.args.numbers.now c.loop-round.flags.items c.in_ok-next.next.items
    c.loop-round._round c.requires c.loop-round.invariant
    (subst (λ fs. c.in_ok-next.next.items ≡ map (λ p. has_loud_block (flag_known c.args.numbers.now fs) p.blocks) c.args.programs.now)
    c.deref.ensures.value c.in_ok-next.ensures)

pub returns-then-are_same : goal.returns-then-are_same
returns-then-are_same c =
    let flags = c.loop-round.flags.items in
    let same : c.in_ok-next.next.items ≡ flags =
    sym c.deref-in-loop-round.ensures.value ∙ (c.are_same.ensures c.if-are_same.true ∙ c.deref-in-loop-round-2.ensures.value) in
    looked_enough c.args.programs.now c.args.numbers.now flags c.loop-round._round c.requires c.loop-round.invariant
    (sym same ∙ subst (λ fs. c.in_ok-next.next.items ≡ map (λ p. has_loud_block (flag_known c.args.numbers.now fs) p.blocks) c.args.programs.now)
    c.deref.ensures.value c.in_ok-next.ensures)

pub returns : goal.returns
returns c =
    let e : c.loop-round._round ≡ length c.args.programs.now = omega arith in
    looked_long c.args.programs.now c.loop-round.flags.items c.loop-round._round e c.loop-round.invariant
