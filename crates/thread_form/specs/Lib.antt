-- What callers read: the form of threads (Form). Below it what its kinds of blocks say.
pub mod Coded
pub mod Rounding
pub mod Answers
pub mod TwoLines
pub mod OneLine
pub mod Taper
pub mod Form
pub mod Written
