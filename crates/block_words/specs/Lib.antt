-- The words in which contracts speak of one block's words and codes.
pub mod Words
pub mod Codes
pub mod Purposes
pub mod Ranges
