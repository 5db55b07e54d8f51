-- The words in which contracts speak of verdicts: the refusals, which texts get which, the line
-- that is printed.
pub mod Refusals
pub mod Verdict
pub mod Printed
