-- The words in which contracts speak of branches of a run. The public law
-- `a_branch_opens_as_its_records` (src/laws.rt) speaks by Openings.
pub mod Meetings
pub mod Branches
pub mod Openings
-- Words for this crate alone.
pub mod Faults
