-- Which words go with a number.
pub mod Words
