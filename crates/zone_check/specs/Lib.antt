-- The segments of a history, between its meetings, and their zones (Segments). Kept is for this
-- crate alone.
pub mod Segments
-- The same with the lines of moves, and what is hit in each.
pub mod Laps
-- Words for this crate alone.
pub mod Kept
pub mod Trailed
