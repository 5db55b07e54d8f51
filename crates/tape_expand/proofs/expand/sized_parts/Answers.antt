-- The parts of a tape are refused for their size, or for the cycle that is part of no form, as the
-- definition says (`sized_parts`, src/expand.rt).
use Rattle.std.proofs.Common.{sym, subst, length}
use Rattle.nc_number.specs.Answers.{Gives}
use Rattle.nc_text.specs.Shape.{blocks_in}
use Rattle.cycle_form.specs.Sizes.{size_verdict}
use Rattle.tape_expand.specs.Expansion.{fitting_parts, sized_by}
use Rattle.tape_expand.proofs.Answered.{parts_fail}
use Rattle.tape_expand.proofs.expand.sized_parts.Goals as goal

pub returns-in-Ok-clause-exact : goal.returns-in-Ok-clause-exact
returns-in-Ok-clause-exact c =
    let counted : Gives (λ parts. parts.items) c.sized.result (fitting_parts c.in-Ok.parts.items (size_verdict (length (blocks_in c.args.tape.now)) c.in-Ok.parts.items)) =
    subst (λ n. Gives (λ parts. parts.items) c.sized.result (fitting_parts c.in-Ok.parts.items (size_verdict n c.in-Ok.parts.items))) c.count_blocks.ensures c.sized.ensures.exact in
    subst (λ due. Gives (λ parts. parts.items) c.sized.result (sized_by (length (blocks_in c.args.tape.now)) due)) (sym c.in-Ok.ensures.exact) counted

pub returns-in-Err-clause-exact : goal.returns-in-Err-clause-exact
returns-in-Err-clause-exact c = parts_fail _ _ c.in-Err.fault c.in-Err.ensures.exact
