-- `ordered_tape`: a refusal of the reading, or else of the order, is that of the path's text
-- (src/tape.rt).
use Rattle.wait_verify.proofs.tape.ordered_tape.Goals as goal

pub returns-in-Err-clause-refused : goal.returns-in-Err-clause-refused
returns-in-Err-clause-refused c = c.in-Err.ensures.refused c.args.premises

pub returns-in-Err-order_of_path-clause-refused : goal.returns-in-Err-order_of_path-clause-refused
returns-in-Err-order_of_path-clause-refused c =
    c.in-Err-order_of_path.ensures.refused c.args.skips c.args.text.now c.in-Ok.ensures.reads
