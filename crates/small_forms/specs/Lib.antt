-- What callers read.
pub mod Codes
pub mod Foreign
pub mod Idle
