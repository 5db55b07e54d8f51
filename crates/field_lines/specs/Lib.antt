-- The lines of a text of entries (Line), their fields with numbers and paths (Field), and lengths
-- (Length).
pub mod Field
pub mod Length
pub mod Line
