-- The lemmas of race_zones: a history without edits is that of turns (Unedited), and its segments are
-- those of what both paths did (Deeds), so that finished runs have the same (Alike).
mod Unedited
mod DeedsLap
mod Alike
