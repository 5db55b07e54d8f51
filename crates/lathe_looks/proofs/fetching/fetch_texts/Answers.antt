-- For the proof of `fetch_texts` (src/fetching.rt): both tapes and the settings have texts; or the
-- first of them that has none is told.
use Rattle.lathe_looks.proofs.NotHad.{behind_two, pair_had, tapes_not_had}
use Rattle.lathe_looks.proofs.fetching.fetch_texts.Goals as goal

pub returns-in-Err-clause-not_had : goal.returns-in-Err-clause-not_had
returns-in-Err-clause-not_had g c = tapes_not_had _ _ _ _ _ _ c.in-Err.ensures.not_had

pub returns-in-Ok-fetch_settings-clause-texts : goal.returns-in-Ok-fetch_settings-clause-texts
returns-in-Ok-fetch_settings-clause-texts g c =
    pair_had _ _ _ _ _ _ c.in-Ok.tapes.one.items c.in-Ok.tapes.two.items _ c.in-Ok.ensures.texts c.in-Ok.ensures.files c.in-Ok-fetch_settings.ensures.text

pub returns-in-Ok-fetch_settings-clause-short : goal.returns-in-Ok-fetch_settings-clause-short
returns-in-Ok-fetch_settings-clause-short g c = record {
  left = c.in-Ok.ensures.texts.each.0.1;
  right = c.in-Ok.ensures.texts.each.1.0.1;
  settings = c.in-Ok-fetch_settings.ensures.short;
}

pub returns-in-Err-fetch_settings-clause-not_had : goal.returns-in-Err-fetch_settings-clause-not_had
returns-in-Err-fetch_settings-clause-not_had g c =
    behind_two _ _ _ _ _ c.in-Ok.tapes.one.items c.in-Ok.tapes.two.items _ _ c.in-Ok.ensures.texts c.in-Ok.ensures.files
    c.in-Ok.ensures.later c.in-Err-fetch_settings.ensures.not_had
