pub mod Leading
pub mod NoseKeeps
