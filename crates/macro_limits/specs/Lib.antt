-- The words of the laws on refused macro expressions and statements: Refused is about the limits,
-- Refusals about where reading stops.
pub mod Refused
pub mod Refusals
