-- The lemmas of this crate: TextLines for `cut_line`, LineByLine for the readers of other crates.
pub mod TextLines
pub mod LineByLine
