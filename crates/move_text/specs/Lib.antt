-- How a move is printed.
pub mod MoveText
