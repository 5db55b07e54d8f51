-- What is due to one tape, its settings and a question.
pub mod Texts
pub mod Expanded
pub mod Plained
pub mod Due
