-- What callers read: the form of grooves and holes (Form). Below it what its kinds of blocks say.
pub mod Kinds
pub mod Answers
pub mod Groove
pub mod Holes
pub mod Turns
pub mod Run
pub mod Form
pub mod Written
