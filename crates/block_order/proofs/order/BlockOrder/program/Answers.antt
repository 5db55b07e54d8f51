-- The program at the place that is kept of an O number is the one that the number finds; without a
-- place there is none. For the contract of `program` (src/order.rt).
use Rattle.std.proofs.Common.{◌≡◌, Some, None, ap, sym, ◌∙◌, slice_get}
use Rattle.block_order.specs.Order.{program_of}
use Rattle.block_order.specs.ProgramPlaces.{place_of}
use Rattle.block_order.proofs.Items.{got_copied}
use Rattle.block_order.proofs.Programs.{program_there, no_program_there}
use Rattle.block_order.proofs.order.BlockOrder.program.Goals as goal

pub returns-in-Some : goal.returns-in-Some
returns-in-Some c =
    let tape = c.self.inside.programs.items in
    let at : Some c.in-Some.place ≡ place_of tape c.args.program =
    sym c.in-Some.is ∙ (c.place_of.ensures ∙ c.self.invariant.loud_are.places c.args.program) in
    got_copied c.get.result c.deref.result.now c.in-Some.place c.get.ensures.lookup.3
    ∙ ap (λ tape. slice_get tape c.in-Some.place) c.deref.ensures.value
    ∙ program_there tape c.args.program c.in-Some.place at
    ∙ ap (λ tape. program_of tape c.args.program) c.self.view_is

pub returns-in-None : goal.returns-in-None
returns-in-None c =
    let tape = c.self.inside.programs.items in
    let at : None ≡ place_of tape c.args.program =
    sym c.in-None.is ∙ (c.place_of.ensures ∙ c.self.invariant.loud_are.places c.args.program) in
    sym (no_program_there tape c.args.program at) ∙ ap (λ tape. program_of tape c.args.program) c.self.view_is
