-- Behind a head its loop is innermost, behind an END the one around it, else the same as before.
-- For the contract of `open_behind` (src/loops.rt).
use Rattle.std.proofs.Common.{◌≡◌, suc, Some, refl, sym, ap, ◌∙◌, arith, subst}
use Rattle.std.specs.Option.{option_flatten}
use Rattle.block_order.specs.declared.control.Control.TheVariants.{While, Do, EndLoop}
use Rattle.block_order.specs.Order.{control_at}
use Rattle.block_order.specs.Fitting.{innermost, IsEnds}
use Rattle.block_order.proofs.Items.{got_copied}
use Rattle.block_order.proofs.NotedEnds.{plain-control, ends-stay, behind-head, behind-plain, ends-noted, behind-end, some-closed}
use Rattle.block_order.proofs.loops.open_behind.Goals as goal

pub returns-in_err-head-in-EndLoop : goal.returns-in_err-head-in-EndLoop
returns-in_err-head-in-EndLoop c = λ bs fits at inside ends long.
    let place = c.args.place in
    let got = c.copied.ensures ∙ got_copied c.get.result _ _ c.get.ensures.lookup.3 in
    let open_is : c.flatten-open.result ≡ innermost bs place =
    c.flatten-open.ensures ∙ ap option_flatten (got ∙ inside place (omega arith)) in
    absurd (some-closed bs place c.in-EndLoop.field-0 fits (at ∙ ap (λ x. Some x) c.in-EndLoop.is)
    (sym open_is ∙ c.in_err-head-in-EndLoop.was))

pub returns-in-While : goal.returns-in-While
returns-in-While c = λ bs fits at inside ends long.
    let is = c.in-While.is in
    let here : control_at bs c.args.place ≡ Some (While c.in-While.field-0) = at ∙ ap (λ x. Some x) is in (
      sym (behind-head bs c.args.place c.in-While.field-0 _ here refl),
      ends-stay bs c.args.place c.args.ends.now _ here (λ m e. absurd cc) ends,
    )

pub returns-in-Do : goal.returns-in-Do
returns-in-Do c = λ bs fits at inside ends long.
    let is = c.in-Do.is in
    let here : control_at bs c.args.place ≡ Some (Do c.in-Do.field-0) = at ∙ ap (λ x. Some x) is in (
      sym (behind-head bs c.args.place c.in-Do.field-0 _ here refl),
      ends-stay bs c.args.place c.args.ends.now _ here (λ m e. absurd cc) ends,
    )

pub returns-in_default : goal.returns-in_default
returns-in_default c = λ bs fits at inside ends long.
    let place = c.args.place in
    let got = c.copied.ensures ∙ got_copied c.get.result _ _ c.get.ensures.lookup.3 in
    let open_is : c.flatten-open.result ≡ innermost bs place =
    c.flatten-open.ensures ∙ ap option_flatten (got ∙ inside place (omega arith)) in
    let d = c.in_default in (
      open_is ∙ sym (behind-plain bs place c.args.control at
          (plain-control c.args.control d.not-While d.not-Do d.not-EndLoop)),
      ends-stay bs place c.args.ends.now _ at d.not-EndLoop ends,
    )

pub returns-in_ok-head-in-EndLoop : goal.returns-in_ok-head-in-EndLoop
returns-in_ok-head-in-EndLoop c = λ bs fits at inside ends long.
    let place = c.args.place in
    let head = c.in_ok-head-in-EndLoop.head in
    let got = c.copied.ensures ∙ got_copied c.get.result _ _ c.get.ensures.lookup.3 in
    let open_is : c.flatten-open.result ≡ innermost bs place =
    c.flatten-open.ensures ∙ ap option_flatten (got ∙ inside place (omega arith)) in
    let top : innermost bs place ≡ Some head = sym open_is ∙ c.in_ok-head-in-EndLoop.was in
    let here : control_at bs place ≡ Some (EndLoop c.in-EndLoop.field-0) = at ∙ ap (λ x. Some x) c.in-EndLoop.is in
    let behind = behind-end bs place c.in-EndLoop.field-0 head fits here top in
    let below = c.copied-in-EndLoop.ensures ∙ got_copied c.get-in-EndLoop.result _ _ c.get-in-EndLoop.ensures.lookup.3 in (
      c.flatten.ensures ∙ ap option_flatten (below ∙ inside head (omega (arith, behind.0))) ∙ sym behind.1,
      subst (IsEnds bs (suc place)) (sym c.note_end.ensures)
          (ends-noted bs place c.in-EndLoop.field-0 head c.args.ends.now fits here top long ends),
    )
