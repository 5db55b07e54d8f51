-- What callers read: what a tape that was written out says (Told), and whether a tape says that
-- (Tapes).
pub mod Told
pub mod Tapes
-- Words of the inside.
pub mod Saying
