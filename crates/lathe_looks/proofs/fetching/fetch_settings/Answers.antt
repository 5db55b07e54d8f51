-- For the proof of `fetch_settings` (src/fetching.rt): a file that is named is read, and without a
-- name the settings are empty.
use Rattle.std.proofs.Common.{rules}
use Rattle.lathe_looks.proofs.NotHad.{settings_had, settings_not_had, settings_short, settings_unset}
use Rattle.lathe_looks.proofs.fetching.fetch_settings.Goals as goal

pub returns-in-Some-clause-text : goal.returns-in-Some-clause-text
returns-in-Some-clause-text g c =
    rw c.in-Some.is (settings_had (λ text. text.items) _ _ _ c.fetch.result c.fetch.ensures.asked c.fetch.ensures.text c.fetch.ensures.calm)

pub returns-in-Some-clause-short : goal.returns-in-Some-clause-short
returns-in-Some-clause-short g c = settings_short (λ text. text.items) _ _ c.fetch.result c.fetch.ensures.text

pub returns-in-Some-clause-not_had : goal.returns-in-Some-clause-not_had
returns-in-Some-clause-not_had g c =
    rw c.in-Some.is (settings_not_had _ _ _ c.fetch.result c.fetch.ensures.asked c.fetch.ensures.not_had)

pub returns-in-None-clause-text : goal.returns-in-None-clause-text
returns-in-None-clause-text g c = rw c.in-None.is (settings_unset _ _ (search rules))
