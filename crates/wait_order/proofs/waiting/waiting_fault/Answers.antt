-- Each program of the tape is the first of its number, with few blocks, fitting loops and rising
-- lines, as the calls in the function require. For the contract of `waiting_fault`
-- (src/waiting.rt).
use Rattle.wait_order.proofs.Listed.{programs_are}
use Rattle.wait_order.proofs.waiting.waiting_fault.Goals as goal

pub stray_line-requires-clause-own : goal.stray_line-requires-clause-own
stray_line-requires-clause-own c = programs_are c.args.programs.now c.requires.listed c.requires.fits

pub reached_by_eight-requires-clause-own : goal.reached_by_eight-requires-clause-own
reached_by_eight-requires-clause-own c = programs_are c.args.programs.now c.requires.listed c.requires.fits

pub deep_line-deep-requires-clause-own : goal.deep_line-deep-requires-clause-own
deep_line-deep-requires-clause-own c = programs_are c.args.programs.now c.requires.listed c.requires.fits
