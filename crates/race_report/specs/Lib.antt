-- The words of the contracts of race_report: what a list of races is (RaceLists), how it is printed
-- (Texts), what an empty one says (Outcomes); the others say how it is found.
pub mod RaceLists
pub mod Texts
pub mod Reads
pub mod Lines
pub mod Meeting
pub mod Tables
pub mod Found
pub mod Outcomes
