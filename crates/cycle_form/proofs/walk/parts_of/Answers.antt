-- One program more adds its parts, or its refusal is the tape's (`parts_of`, src/walk.rt).
use Rattle.std.proofs.lemmas.List.{drop_all}
use Rattle.cycle_form.proofs.Walking.{tape_read, program_read, program_fails}
use Rattle.cycle_form.proofs.walk.parts_of.Goals as goal

pub returns-in-Err-clause-exact : goal.returns-in-Err-clause-exact
returns-in-Err-clause-exact c =
    program_fails c.args.marks.now c.loop-program.parts.items c.args.tape.now c.loop-program.program-index c.program-item.result _ _ c.in-Err.fault c.program-item.is c.loop-program-test.true c.as_slice.ensures c.in-Err.ensures.exact c.loop-program.invariant.rest

pub loop-program-preserved : goal.loop-program-preserved
loop-program-preserved c = record {
  rest = program_read c.args.marks.now c.loop-program.parts.items c.in-Ok.parts.items c.args.tape.now c.loop-program.program-index c.program-item.result _ _ c.program-item.is c.loop-program-test.true c.as_slice.ensures c.in-Ok.ensures.exact c.loop-program.invariant.rest;
  sound = c.in-Ok.ensures.sound;
}

pub returns-clause-exact : goal.returns-clause-exact
returns-clause-exact c =
    tape_read c.args.marks.now c.loop-program.parts.items _ _ (drop_all c.loop-program.program-index c.args.tape.now c.loop-program-test.false) c.loop-program.invariant.rest
