-- Lemmas of lengths that are moved and of lists that may be missing. This crate takes none.
pub mod MissingLists
pub mod Shifted
