-- The lemmas of this crate, which no other crate uses: one pair of three texts (Forms, SamePair),
-- one meaning of an image (Parted, OneRun), records done again (Replays, Recoveries), and the laws
-- on histories (Prefixes, OneHistory, NeverStuck).
mod Forms
mod SamePair
mod Parted
mod OneRun
mod Replays
mod Recoveries
mod Prefixes
mod OneHistory
mod NeverStuck
