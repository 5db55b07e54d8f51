-- What the contract of `top` and the laws are said in. No other crate takes any of it.
pub mod Kinds
pub mod Done
pub mod Lathe
pub mod Session
pub mod Turrets
pub mod Kept
pub mod OverFiles
pub mod Ran
pub mod Zoned
pub mod Edited
pub mod Branched
pub mod Made
pub mod Outside
pub mod Stops
pub mod Streams
-- What the code keeps and how a run goes on, for clauses of src alone.
pub mod Held
pub mod Texts
pub mod Going
