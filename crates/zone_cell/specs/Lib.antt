-- The zones of a text (Zones), the lines of a list of zones (Lines), and the refusal (Faults).
-- Entry is cited in this crate alone.
pub mod Zones
pub mod Lines
pub mod Faults
-- The lines of what is hit.
pub mod HitLines
-- What a text asks for: zones by areas, or a cell in which moves are judged one by one.
pub mod Plans
-- Zones rests on it.
pub mod Entry
-- Plans rests on it.
pub mod CellEntry
