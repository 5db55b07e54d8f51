-- The words of the contracts of path_state. Effect says what a block does, Standing where the path
-- goes, Statements what a statement does, Edits what an operator's edit sets, Controlled the law of
-- control.
pub mod View
pub mod Looks
pub mod Said
pub mod Standing
pub mod Routes
pub mod Statements
pub mod Effect
pub mod Writings
pub mod StatementSteps
pub mod Kept
pub mod Decisions
pub mod Fits
pub mod Advances
pub mod Opening
pub mod Controlled
pub mod Edits
pub mod Ahead
pub mod Worked
pub mod Protected
