-- Where a line begins and ends, and words that say a thing twice (Lines); directions of angles (Angles),
-- and where a line ends by its angle (Angled).
pub mod Lines
pub mod Angles
pub mod Angled
