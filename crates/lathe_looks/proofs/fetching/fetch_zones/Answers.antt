-- For the proof of `fetch_zones` (src/fetching.rt): the file has a short text, or it is the one
-- that can't be read.
use Rattle.std.proofs.Common.{arith}
use Rattle.lathe_looks.proofs.NotHad.{first_not_had, tape_had}
use Rattle.lathe_looks.proofs.fetching.fetch_zones.Goals as goal

pub returns-in-Err-clause-not_had : goal.returns-in-Err-clause-not_had
returns-in-Err-clause-not_had g c = first_not_had _ _ _ _ _ c.in-Err.ensures.asked c.in-Err.ensures.not_had

pub returns-in-Ok-clause-text : goal.returns-in-Ok-clause-text
returns-in-Ok-clause-text g c = tape_had _ _ _ _ c.in-Ok.ensures.text c.in-Ok.ensures.asked c.in-Ok.ensures.calm

pub returns-in-Ok-clause-short : goal.returns-in-Ok-clause-short
returns-in-Ok-clause-short g c = let short = c.in-Ok.ensures.text.1 in omega (arith, short)
