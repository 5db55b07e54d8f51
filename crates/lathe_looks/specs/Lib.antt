-- What the commands answer that only look.
pub mod Named
pub mod Fetched
pub mod Standing
pub mod Shown
pub mod Zoned
pub mod Edited
-- The names and texts of the code, for clauses of this crate and of lathe_top.
pub mod Texts
