-- What a move may pass (Passing), the area that holds it (Area), and the range of its numbers
-- (Range). Roots is cited in this crate alone.
pub mod Passing
pub mod Area
pub mod Range
-- Area rests on it.
pub mod Roots
