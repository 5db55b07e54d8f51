-- A text whose statements that print or write a file are comments.
pub mod Lines
