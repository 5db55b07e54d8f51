-- The place that the order keeps of an O number is that of the flow's program, and a number without
-- a place has no program (src/lending.rt).
use Rattle.std.proofs.Common.{ap, sym, ◌∙◌, slice_get}
use Rattle.block_order.specs.ProgramPlaces.{place_of}
use Rattle.tape_flow.proofs.Seen.{program_there, no_program_there}
use Rattle.tape_flow.proofs.flow.Flow.program.Goals as goal

pub returns-in-Some : goal.returns-in-Some
returns-in-Some c =
    let flow = c.args.self.now in
    c.get_program.ensures ∙ ap (λ ps. slice_get ps c.in-Some.place) c.as_slice.ensures
    ∙ program_there flow.programs c.args.number c.in-Some.place
    (c.in-Some.ensures ∙ ap (λ tape. place_of tape c.args.number) flow.agrees)

pub returns-in-None : goal.returns-in-None
returns-in-None c =
    let flow = c.args.self.now in
    sym (no_program_there flow.programs c.args.number (c.in-None.ensures ∙ ap (λ tape. place_of tape c.args.number) flow.agrees))
