-- A jump to a block is permitted from its innermost loop alone, or from everywhere if none holds
-- it. For the contract of `reach` (src/loops.rt).
use Rattle.std.proofs.Common.{◌≡◌, ◌+◌, Some, sym, ap, ◌∙◌, arith}
use Rattle.std.specs.Option.{unwrap_or}
use Rattle.block_order.specs.Fitting.{innermost}
use Rattle.block_order.proofs.Opened.{innermost-ends, reach-all, reach-some}
use Rattle.block_order.proofs.loops.LoopTable.reach.Goals as goal

pub returns-in-Some : goal.returns-in-Some
returns-in-Some c = λ bs table within block l.
    let top : innermost bs c.args.target ≡ Some c.in-Some.head =
    sym (c.head_around.ensures bs table within) ∙ c.in-Some.is in
    let ends = innermost-ends bs c.args.target c.in-Some.head table.fits (omega arith) top in
    let at : c.end_of.result ≡ Some ends.0 = c.end_of.ensures bs table ∙ ends.3 in
    let high : c.unwrap_or.result ≡ ends.0 = c.unwrap_or.ensures ∙ ap (λ o. unwrap_or o c.in-Some.head) at in
    let low : c.saturating_add.result ≡ c.in-Some.head + 1 = omega (arith, c.saturating_add.ensures, ends.1, table.few) in
    let sides = reach-some bs c.args.target block c.in-Some.head ends.0 table.fits (omega arith) top ends.1 ends.2 ends.3 in (
      λ p. let w = sides.0 p in (omega (arith, w.0), omega (arith, w.1)),
      λ w. sides.1 (omega (arith, w.0), omega (arith, w.1)),
    )

pub returns-in-None : goal.returns-in-None
returns-in-None c = λ bs table within block l.
    let few = table.few in (
      λ p. (omega arith, omega arith),
      λ w. reach-all bs c.args.target block (sym (c.head_around.ensures bs table within) ∙ c.in-None.is),
    )
