-- The flag of a called loud program is set; its place always lies within the flags. A loud program
-- has a wait or an end, or calls one that has. For the contract of `flag_called` (src/depth.rt).
use Rattle.std.proofs.Common.{sym, ◌∙◌, arith}
use Rattle.wait_order.proofs.Called.{flag_loud}
use Rattle.block_order.proofs.Programs.{place_within}
use Rattle.wait_order.proofs.depth.flag_called.Goals as goal

pub returns-then-place-flags : goal.returns-then-place-flags
returns-then-place-flags c tape known count q =
    flag_loud tape c.args.flags.now c.args.control.now c.in-Call.program c.in-Call.repeats c.in-Some.place c.in-Call.is
    ((λ i. sym known.loud_is i c.in-Call.program) ∙ (sym c.is_loud.ensures ∙ c.if-is_loud.true))
    (sym (c.in-Some.ensures ∙ known.places c.in-Call.program)) c.if-place-flags.true q

pub returns-else-place-flags : goal.returns-else-place-flags
returns-else-place-flags c tape known count q =
    let within = place_within tape c.in-Call.program c.in-Some.place (c.in-Some.ensures ∙ known.places c.in-Call.program) in
    let past = c.if-place-flags.false in
    absurd (omega arith)
