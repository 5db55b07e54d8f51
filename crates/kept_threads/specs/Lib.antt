-- The words of the contracts of kept threads.
pub mod Obeyed
