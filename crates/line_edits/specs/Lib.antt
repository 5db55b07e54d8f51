-- What an edited text is, line by line and byte by byte.
pub mod Splice
