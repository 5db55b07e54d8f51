-- The words of the contracts of label_list. Pieces is for this crate alone.
pub mod Lists
pub mod Faults
pub mod Accepted
pub mod Pieces
