-- For the proof of `fetch_tapes` (src/fetching.rt): both tapes have texts; or the first of them
-- that has none is told.
use Rattle.lathe_looks.proofs.NotHad.{first_not_had, second_not_had, tapes_had}
use Rattle.lathe_looks.proofs.fetching.fetch_tapes.Goals as goal

pub returns-in-Err-clause-not_had : goal.returns-in-Err-clause-not_had
returns-in-Err-clause-not_had g c = first_not_had _ _ _ _ _ c.in-Err.ensures.asked c.in-Err.ensures.not_had

pub returns-in-Err-fetch-clause-not_had : goal.returns-in-Err-fetch-clause-not_had
returns-in-Err-fetch-clause-not_had g c =
    second_not_had _ _ _ _ _ c.in-Ok.text.items _ c.in-Ok.ensures.text c.in-Ok.ensures.files c.in-Ok.ensures.later c.in-Ok.ensures.asked
    c.in-Err-fetch.ensures.asked c.in-Err-fetch.ensures.not_had

pub returns-clause-texts : goal.returns-clause-texts
returns-clause-texts g c =
    tapes_had _ _ _ _ _ _ _ _ _ c.in-Ok.ensures.text c.in-Ok.ensures.files c.in-Ok.ensures.asked c.in-Ok-fetch.ensures.text c.in-Ok-fetch.ensures.asked
    c.in-Ok.ensures.calm c.in-Ok-fetch.ensures.calm
