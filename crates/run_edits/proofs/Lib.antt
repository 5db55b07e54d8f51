-- The lemmas of this crate, which no other crate uses: where a journal ends (Held), what writing edits
-- leaves on the disk (Written), and that their records may follow (Followed).
mod Held
mod Written
mod Followed
