-- The words in which contracts speak of the order of blocks. Crates above cite all of these files
-- but LoopFacts, Misplaced, Found and Kept; the most cited are Labels, Order, Answers, Loud, Steps
-- and Faults.
pub mod Order
pub mod LoopFacts
pub mod Loud
pub mod Labels
pub mod Moves
pub mod Steps
pub mod Loops
pub mod Faults
pub mod Shape
pub mod ProgramPlaces
pub mod Numbers
pub mod Heard
pub mod Places
pub mod Fitting
pub mod Table
pub mod Frames
pub mod Misplaced
pub mod First
pub mod TapeTable
pub mod Found
pub mod Answers
pub mod Kept
