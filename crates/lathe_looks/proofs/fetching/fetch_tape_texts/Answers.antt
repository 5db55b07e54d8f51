-- For the proof of `fetch_tape_texts` (src/fetching.rt): the tape and the settings have texts; or the
-- first of them that has none is told.
use Rattle.lathe_looks.proofs.NotHad.{behind_one, first_not_had, tape_and_settings_had}
use Rattle.lathe_looks.proofs.fetching.fetch_tape_texts.Goals as goal

pub returns-in-Err-clause-not_had : goal.returns-in-Err-clause-not_had
returns-in-Err-clause-not_had g c = first_not_had _ _ _ _ _ c.in-Err.ensures.asked c.in-Err.ensures.not_had

pub returns-in-Ok-fetch_settings-clause-texts : goal.returns-in-Ok-fetch_settings-clause-texts
returns-in-Ok-fetch_settings-clause-texts g c =
    tape_and_settings_had _ _ _ _ _ c.in-Ok.text.items _ c.in-Ok.ensures.text c.in-Ok.ensures.asked c.in-Ok.ensures.calm c.in-Ok.ensures.files
    c.in-Ok-fetch_settings.ensures.text

pub returns-in-Err-fetch_settings-clause-not_had : goal.returns-in-Err-fetch_settings-clause-not_had
returns-in-Err-fetch_settings-clause-not_had g c =
    behind_one _ _ _ _ c.in-Ok.text.items _ _ c.in-Ok.ensures.text c.in-Ok.ensures.asked c.in-Ok.ensures.files c.in-Ok.ensures.later
    c.in-Err-fetch_settings.ensures.not_had
