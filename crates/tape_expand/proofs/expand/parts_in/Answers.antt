-- The parts that are written out, or why the text is refused, are those of the definition
-- (`parts_in`, src/expand.rt).
use Rattle.std.proofs.Common.{◌≤◌, sym, subst, length}
use Rattle.nc_number.specs.Answers.{Gives}
use Rattle.nc_number.specs.declared.limits.TheConstants.{MOST_BLOCKS}
use Rattle.nc_text.specs.Shape.{blocks_in}
use Rattle.nc_text.specs.Tape.{tape_of}
use Rattle.tape_expand.proofs.Answered.{of_text, of_no_tape}
use Rattle.tape_expand.proofs.expand.parts_in.Goals as goal

pub cycles_in-requires : goal.cycles_in-requires
cycles_in-requires c = subst (λ t. length (blocks_in t) ≤ MOST_BLOCKS) (sym c.as_slice.ensures.value) c.as_slice.ensures.shape.few

pub returns-in-Ok-clause-exact : goal.returns-in-Ok-clause-exact
returns-in-Ok-clause-exact c =
    subst (λ due. Gives (λ parts. parts.items) c.cycles_in.result due) (sym (of_text c.args.text.now c.in-Ok.tape c.as_slice.result.now c.as_slice.ensures.value c.in-Ok.ensures)) c.cycles_in.ensures.exact

pub returns-in-Err-clause-exact : goal.returns-in-Err-clause-exact
returns-in-Err-clause-exact c =
    of_no_tape c.args.text.now c.unread.result (c.unread.ensures c.args.text.now (tape_of 0 c.args.text.now) c.in-Err.ensures)
