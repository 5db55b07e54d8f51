-- What callers read: the blocks of a form, where the tool is after them, and a length that is moved.
pub mod Blocks
pub mod Places
pub mod Shifts
