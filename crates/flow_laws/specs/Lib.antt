-- The words of the laws. What a fault, a refusal and a label are is in block_order and tape_flow.
-- OneList and Waits are cited in this crate alone, in laws that readers meet.
pub mod Answers
pub mod OneList
pub mod Waits
