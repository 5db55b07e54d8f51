-- The words of the contracts of block_values, from the value of an operand (Outcomes) to all moves
-- of a block (Moves).
pub mod Outcomes
pub mod Readings
pub mod Values
pub mod Arguments
pub mod Operands
pub mod InForce
pub mod Motion
pub mod Moves
pub mod Within
pub mod Seen
pub mod Drawn
