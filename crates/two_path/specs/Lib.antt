-- The words in which contracts speak of the machine of two paths: its state, its turns and edits,
-- the histories of its records, and when it is stuck.
pub mod Machine
pub mod Start
pub mod Ending
pub mod Turns
pub mod Edits
pub mod Histories
pub mod Stuck
pub mod Joined
pub mod Again
pub mod Made
