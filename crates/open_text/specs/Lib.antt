-- The words in which contracts speak of a text that is opened for the reader of tapes.
pub mod Bytes
pub mod Opened
