-- For the proof of `fetch_tape` (src/fetching.rt): the file has a text, or it is the one that can't
-- be read.
use Rattle.lathe_looks.proofs.NotHad.{first_not_had, tape_had}
use Rattle.lathe_looks.proofs.fetching.fetch_tape.Goals as goal

pub returns-in-Err-clause-not_had : goal.returns-in-Err-clause-not_had
returns-in-Err-clause-not_had g c = first_not_had _ _ _ _ _ c.in-Err.ensures.asked c.in-Err.ensures.not_had

pub returns-in-Ok-clause-text : goal.returns-in-Ok-clause-text
returns-in-Ok-clause-text g c = tape_had _ _ _ _ c.in-Ok.ensures.text c.in-Ok.ensures.asked c.in-Ok.ensures.calm
