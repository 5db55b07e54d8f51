-- `compile` tells the tape's one refusal: that of the first block that is refused, or, if all
-- blocks read, the first fault of their order (src/flow.rt).
use Rattle.std.proofs.Common.{map, subst, sym}
use Rattle.nc_text.specs.Shape.{IsTapeShape}
use Rattle.block_order.specs.Shape.{IsReadTape}
use Rattle.block_order.specs.Answers.{IfFault}
use Rattle.tape_flow.specs.Forms.{program_form}
use Rattle.tape_flow.specs.Controls.{controls}
use Rattle.tape_flow.specs.Exact.{dialect_of, IsOrderFault}
use Rattle.tape_flow.proofs.FirstRefused.{refused_by_reading, refused_by_order}
use Rattle.tape_flow.proofs.Listed.{read_listed}
use Rattle.tape_flow.proofs.flow.compile.Goals as goal

pub returns-in-Err-clause-refused : goal.returns-in-Err-clause-refused
returns-in-Err-clause-refused c =
    let same = sym c.as_slice-tape.ensures.value in
    let shape = subst (λ tape. IsTapeShape tape) same c.as_slice-tape.ensures.shape in
    rw same (refused_by_reading (dialect_of c.args.settings.now) c.as_slice-tape.result.now c.in-Err.fault
    shape c.in-Err.ensures)

pub order_of-requires : goal.order_of-requires
order_of-requires c =
    let shape = subst (λ tape. IsTapeShape tape) (sym c.as_slice-tape.ensures.value) c.as_slice-tape.ensures.shape in
    subst (λ programs. IsReadTape (controls (map program_form programs))) (sym c.as_slice.ensures)
    (read_listed (dialect_of c.args.settings.now) c.as_slice-tape.result.now (map program_form c.in-Ok.programs) shape
    c.in-Ok.ensures)

pub returns-in-Err-order_of-clause-refused : goal.returns-in-Err-order_of-clause-refused
returns-in-Err-order_of-clause-refused c =
    let error = c.in-Err-order_of.fault in
    let first = subst
    (λ programs. IfFault error (λ fault. IsOrderFault (controls (map program_form programs)) fault.line fault.number))
    c.as_slice.ensures c.in-Err-order_of.ensures.first in
    rw (sym c.as_slice-tape.ensures.value)
    (refused_by_order (dialect_of c.args.settings.now) c.as_slice-tape.result.now (map program_form c.in-Ok.programs) error
    c.in-Ok.ensures first)
