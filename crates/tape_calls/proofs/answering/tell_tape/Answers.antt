-- For the proof of `tell_tape` (src/answering.rt): each question is answered by the text that is due
-- to it, with its status; only a fault of the sink or running out of memory may come instead.
use Rattle.tape_calls.proofs.answering.tell_tape.Goals as goal

pub returns-in-Expand : goal.returns-in-Expand
returns-in-Expand g c = rw (c.in-Expand.is) c.expand_text.ensures

pub returns-in-Plain : goal.returns-in-Plain
returns-in-Plain g c = rw (c.in-Plain.is) c.plain_tape.ensures
