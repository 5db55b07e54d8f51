-- The words of the contracts of both paths at once. `StopsBy` of Seats stands in that of `run_pair`.
pub mod Seats
-- For this crate alone: what the threads of a path come to.
pub mod Jobs
