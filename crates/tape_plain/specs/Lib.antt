-- What callers read: the text that is due (Plain) and the refusals (Faults).
pub mod Faults
pub mod Plain
-- How the text is made.
pub mod BlockText
pub mod Comments
pub mod Draft
pub mod Again
pub mod Rules
pub mod Skips
