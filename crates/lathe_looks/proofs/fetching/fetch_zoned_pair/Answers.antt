-- For the proof of `fetch_zoned_pair` (src/fetching.rt): the file of zones and those of the pair have
-- texts; or the first of them that has none is told.
use Rattle.lathe_looks.proofs.NotHad.{behind_one, first_not_had, zones_and_pair_had}
use Rattle.lathe_looks.proofs.fetching.fetch_zoned_pair.Goals as goal

pub returns-in-Err-clause-not_had : goal.returns-in-Err-clause-not_had
returns-in-Err-clause-not_had g c = first_not_had _ _ _ _ _ c.in-Err.ensures.asked c.in-Err.ensures.not_had

pub returns-in-Ok-fetch_texts-clause-texts : goal.returns-in-Ok-fetch_texts-clause-texts
returns-in-Ok-fetch_texts-clause-texts g c =
    zones_and_pair_had _ _ _ _ _ c.in-Ok.text.items _ c.in-Ok.ensures.text c.in-Ok.ensures.asked c.in-Ok.ensures.calm c.in-Ok.ensures.files
    c.in-Ok-fetch_texts.ensures.texts

pub returns-in-Ok-fetch_texts-clause-zones : goal.returns-in-Ok-fetch_texts-clause-zones
returns-in-Ok-fetch_texts-clause-zones g c = c.in-Ok.ensures.text.1

pub returns-in-Ok-fetch_texts-clause-short : goal.returns-in-Ok-fetch_texts-clause-short
returns-in-Ok-fetch_texts-clause-short g c = c.in-Ok-fetch_texts.ensures.short

pub returns-in-Err-fetch_texts-clause-not_had : goal.returns-in-Err-fetch_texts-clause-not_had
returns-in-Err-fetch_texts-clause-not_had g c =
    behind_one _ _ _ _ c.in-Ok.text.items _ _ c.in-Ok.ensures.text c.in-Ok.ensures.asked c.in-Ok.ensures.files c.in-Ok.ensures.later
    c.in-Err-fetch_texts.ensures.not_had
