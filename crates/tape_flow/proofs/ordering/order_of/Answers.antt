-- `order_of` checks the controls of the programs' forms: the order is theirs and sound, or the
-- fault is their first one (src/ordering.rt).
use Rattle.std.proofs.Common.{sym, ◌∙◌, subst}
use Rattle.std.proofs.lemmas.Simd.{map-map}
use Rattle.block_order.specs.Faults.{IsSound, IsFirst}
use Rattle.block_order.specs.Shape.{IsReadTape}
use Rattle.tape_flow.specs.Forms.{program_form}
use Rattle.tape_flow.specs.Controls.{control_program}
use Rattle.tape_flow.proofs.ordering.order_of.Goals as goal

pub check_order-requires : goal.check_order-requires
check_order-requires c =
    let is = c.in_ok-controls.ensures ∙ sym (map-map control_program program_form c.args.programs.now) in
    record { listed = subst (λ order. IsReadTape order) (sym is) c.requires }

pub returns-in-Ok-clause-same : goal.returns-in-Ok-clause-same
returns-in-Ok-clause-same c =
    c.in-Ok.ensures.same ∙ c.in_ok-controls.ensures ∙ sym (map-map control_program program_form c.args.programs.now)

pub returns-in-Ok-clause-sound : goal.returns-in-Ok-clause-sound
returns-in-Ok-clause-sound c =
    let is = c.in_ok-controls.ensures ∙ sym (map-map control_program program_form c.args.programs.now) in
    subst (λ order. IsSound order) is c.in-Ok.ensures.sound

pub returns-in-Err-Fault-clause-first : goal.returns-in-Err-Fault-clause-first
returns-in-Err-Fault-clause-first c =
    let is = c.in_ok-controls.ensures ∙ sym (map-map control_program program_form c.args.programs.now) in
    let fault = c.in-Err-Fault.fault in
    let first = rw c.in-Err-Fault.field-0-is at c.in-Err-Fault.ensures.first in
    (fault.cause, subst (λ order. IsFirst order fault.line fault.cause) is first, c.number.ensures)
