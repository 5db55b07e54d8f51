-- The words of the contracts of loud_calls.
pub mod Calls
pub mod Known
