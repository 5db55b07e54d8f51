-- The words of contracts for numbers, points, paths, causes and answers. Other crates cite all of
-- these but Spelling, which is for the laws of this crate (src/laws.rt).
pub mod Answers
pub mod Arithmetic
pub mod Axes
pub mod Both
pub mod Causes
pub mod Conversions
pub mod Distances
pub mod Faults
pub mod Literals
pub mod Options
pub mod Path
pub mod Position
pub mod Printed
pub mod Range
pub mod Refusals
pub mod Results
pub mod Rising
pub mod Signs
pub mod Spelling
pub mod Variables
