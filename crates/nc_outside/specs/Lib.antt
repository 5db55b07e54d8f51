-- The outside: its faults, files, outputs, turrets, steppers and reasons, which the crates above
-- cite; and in Kept and Plan the forms in memory, which no other crate cites (tests meet them in
-- the contracts of the forms).
pub mod Calls
pub mod Faults
pub mod Files
pub mod Kept
pub mod Lined
pub mod Plan
pub mod Reasons
pub mod Received
pub mod Written
