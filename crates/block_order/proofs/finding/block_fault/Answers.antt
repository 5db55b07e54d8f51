-- A block's fault is that of its fixed GOTO, of the main program's M99 P, or of its call. For the
-- contract of `block_fault` (src/finding.rt).
use Rattle.std.proofs.Common.{◌≡◌, Some, sym, ap, ◌∙◌}
use Rattle.block_order.specs.declared.control.Control.TheVariants.{Goto, BackTo, Call}
use Rattle.block_order.specs.Faults.{fixed_number}
use Rattle.block_order.proofs.Findable.{lift-jump, lift-call, main-fixed}
use Rattle.block_order.proofs.finding.block_fault.Goals as goal

pub returns-in-Goto-Some : goal.returns-in-Goto-Some
returns-in-Goto-Some c = λ tape p t own main l.
    let is : c.args.control ≡ Goto (Some c.in-Goto-Some.number) =
    c.in-Goto-Some.is ∙ ap (λ o. Goto o) (rw c.in-Goto-Some.is at c.in-Goto-Some.field-0-is) in
    lift-jump tape p c.args.place c.in-Goto-Some.number c.args.control c.jump_fault.result
    (ap (fixed_number tape p.number) is)
    (λ called repeats e. let f : Goto (Some c.in-Goto-Some.number) ≡ Call called repeats = sym is ∙ e in absurd cc)
    (c.jump_fault.ensures p.blocks own)

pub returns-then-is_main : goal.returns-then-is_main
returns-then-is_main c = λ tape p t own main l.
    let is : c.args.control ≡ BackTo c.in-BackTo.number = c.in-BackTo.is in
    lift-jump tape p c.args.place c.in-BackTo.number c.args.control c.jump_fault-then-is_main.result
    (ap (fixed_number tape p.number) is ∙ main-fixed tape p.number c.in-BackTo.number (main.0 c.if-is_main.true))
    (λ called repeats e. let f : BackTo c.in-BackTo.number ≡ Call called repeats = sym is ∙ e in absurd cc)
    (c.jump_fault-then-is_main.ensures p.blocks own)

pub returns-in-Call : goal.returns-in-Call
returns-in-Call c = λ tape p t own main l.
    lift-call tape p c.args.place _ _ c.args.control _ c.in-Call.is (c.call_fault.ensures tape t)
