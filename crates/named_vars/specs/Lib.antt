-- The words of the contract of named_vars: which variables a block names and may write, by its text
-- alone.
pub mod Names
