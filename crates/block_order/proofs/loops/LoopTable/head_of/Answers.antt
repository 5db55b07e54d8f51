-- The innermost head around an END is its own, if its loop ends there. For the contract of
-- `head_of` (src/loops.rt).
use Rattle.std.proofs.Common.{◌≡◌, ℕ, Some, None, sym, ◌∙◌, subst}
use Rattle.block_order.specs.Order.{IsLoop}
use Rattle.block_order.proofs.Items.{eq-some, eq-not}
use Rattle.block_order.proofs.Opened.{close_within, open_after_end-head}
use Rattle.block_order.proofs.loops.LoopTable.head_of.Goals as goal

pub returns-in_err-head : goal.returns-in_err-head
returns-in_err-head c = λ bs table head. (
  λ e. let f = c.from_residual.ensures in absurd (let k : None ≡ Some head = sym f ∙ e in cc),
  λ (loop : IsLoop bs head c.args.close).
      let within = close_within bs head c.args.close loop in
      c.from_residual.ensures ∙ sym c.in_err-head.was ∙ c.head_around.ensures bs table within
      ∙ open_after_end-head bs head c.args.close table.fits loop,
)

pub returns-then-eq : goal.returns-then-eq
returns-then-eq c = λ bs table head.
    let is = eq-some c.end_of.result c.args.close (sym c.eq.ensures ∙ c.if-eq.true) in (
      λ e.
          let k : c.in_ok-head.head ≡ head = cc in
          subst (λ (h : ℕ). IsLoop bs h c.args.close) k (sym (c.end_of.ensures bs table) ∙ is),
      λ (loop : IsLoop bs head c.args.close).
          let within = close_within bs head c.args.close loop in
          sym c.in_ok-head.was ∙ c.head_around.ensures bs table within ∙ open_after_end-head bs head c.args.close table.fits loop,
    )

pub returns-else-eq : goal.returns-else-eq
returns-else-eq c = λ bs table head. (
  λ e. absurd cc,
  λ (loop : IsLoop bs head c.args.close).
      let within = close_within bs head c.args.close loop in
      let same : Some c.in_ok-head.head ≡ Some head =
      sym c.in_ok-head.was ∙ c.head_around.ensures bs table within ∙ open_after_end-head bs head c.args.close table.fits loop in
      let k : c.in_ok-head.head ≡ head = cc in
      let is : c.end_of.result ≡ Some c.args.close =
      c.end_of.ensures bs table ∙ subst (λ (h : ℕ). IsLoop bs h c.args.close) (sym k) loop in
      absurd (eq-not c.end_of.result c.args.close (sym c.eq.ensures ∙ c.if-eq.false) is),
)
