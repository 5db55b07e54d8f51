-- `open_order` tells the tape's one refusal: of a block; of the order, if all blocks read; of a
-- number that stands twice, or a contour, if the order is sound (src/ordering.rt).
use Rattle.std.proofs.Common.{ap, sym, ◌∙◌}
use Rattle.open_order.specs.Exact.{late_fault}
use Rattle.open_order.specs.Exact.IsRefused.{late}
use Rattle.open_order.proofs.Listed.{read_listed}
use Rattle.open_order.proofs.Refused.{refused_by_reading, refused_by_order}
use Rattle.open_order.proofs.ordering.open_order.Goals as goal

pub returns-in-Err-clause-refused : goal.returns-in-Err-clause-refused
returns-in-Err-clause-refused c = refused_by_reading c.args.premises c.args.tape.now c.in-Err.error c.in-Err.ensures

pub order_of-requires : goal.order_of-requires
order_of-requires c = read_listed c.args.premises c.args.tape.now c.in-Ok.programs.items c.requires c.in-Ok.ensures

pub returns-in-Err-order_of-clause-refused : goal.returns-in-Err-order_of-clause-refused
returns-in-Err-order_of-clause-refused c =
    refused_by_order c.args.premises c.args.tape.now c.in-Ok.programs.items c.in-Err-order_of.error c.in-Ok.ensures
    c.in-Err-order_of.ensures.first

pub returns-in-Some-clause-refused : goal.returns-in-Some-clause-refused
returns-in-Some-clause-refused c =
    late c.in-Ok.programs.items c.in-Ok.ensures c.in-Ok-order_of.ensures.sound
    (ap (λ o. late_fault o c.args.tape.now) (sym c.in-Ok-order_of.ensures.same) ∙ sym c.in-Ok-late_fault.ensures ∙ c.in-Some.is)
