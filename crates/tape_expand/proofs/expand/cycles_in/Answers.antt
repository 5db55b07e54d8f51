-- The parts of a tape that was read from this text, or its refusal, are those of the definition
-- (`cycles_in`, src/expand.rt).
use Rattle.std.proofs.Common.{ap, sym, ◌∙◌}
use Rattle.tape_expand.specs.Expansion.{parts_of_cycles}
use Rattle.tape_expand.proofs.Answered.{marked, same_fails}
use Rattle.tape_expand.proofs.expand.cycles_in.Goals as goal

pub returns-in-Ok-clause-exact : goal.returns-in-Ok-clause-exact
returns-in-Ok-clause-exact c =
    sym (marked c.args.text.now c.deref.result.now c.in_ok-marks.marks.items c.args.tape.now c.deref.ensures.value c.in_ok-marks.ensures) ∙ ap parts_of_cycles c.in-Ok.ensures.exact

pub returns-clause-exact : goal.returns-clause-exact
returns-clause-exact c =
    same_fails c.bad_cycle.result _ _ (marked c.args.text.now c.deref.result.now c.in_ok-marks.marks.items c.args.tape.now c.deref.ensures.value c.in_ok-marks.ensures) (c.bad_cycle.ensures _ c.in-Err.ensures.exact)
