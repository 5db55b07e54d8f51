-- What the laws say of a text that was written.
pub mod Written
