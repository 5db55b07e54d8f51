-- The words of the contracts of macro_expr. Crates above cite Tree, Grammar, Answers and Limits.
-- Reading and Statements say how a text is read.
pub mod Tree
pub mod Words
pub mod Reading
pub mod Statements
pub mod Limits
pub mod Answers
pub mod Grammar
