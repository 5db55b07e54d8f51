-- What is due to three texts and a text of zones.
pub mod Zoned
pub mod Due
