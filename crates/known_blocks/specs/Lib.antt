-- What callers read: what is known (Known), what is known behind a block (Behind), and the blocks that
-- a path may come to from elsewhere (Entries).
pub mod Known
pub mod Behind
pub mod Entries
-- Words of the inside.
pub mod Heard
pub mod InForce
pub mod Places
